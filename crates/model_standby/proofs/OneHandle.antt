-- One handle for a session: the rules of the row are kept by every call; what an accepted Bind does to the session's other handle, and to its own.
-- Assumes nothing.
use mathlib.Core.Path.{◌≡◌, refl, sym, ap, subst, ◌∙◌}
use Prim.Native.Nat.{ℕ, zero, suc, ◌^◌, ◌≤◌, ◌<◌}
use native.Mathlib.Omega.{arith}
use mathlib.Core.List.{List, [], ◌∷◌, ◌++◌}
use mathlib.Core.Option.{Option, none, some}
use mathlib.Core.Option as option
use mathlib.Core.Bool.{Bool, true, false, cond, not, ◌&&◌, ◌||◌}
use lib.ListN.{length, get_elem?}
use lib.Dec.{T, ltb, eqb, ltb→lt, nltb→le}
use Rattle.model_frame.specs.Frame.{Key, Change, Part, stale_epoch, lag_too_great, Frame, hello, welcome, bind, batch, ack, nack, bound, checked}
use Rattle.model_session.specs.Session.{suits, Session, Holdable, top}
use Rattle.model_session.specs.Summary.{summary}
use Rattle.model_session.specs.Whole.{whole_batches, hold_length}
use Rattle.model_session.proofs.Basics.{cond_cases, cond-false, eqb_sound, ltb_false, none≢some, true≢false}
use Rattle.model_standby.specs.Answer.{Given, damaged, intact, given, Answer, refused, accepted, is_reply}
use Rattle.model_standby.specs.Row.{Row, freed, find, has_room, put}
use Rattle.model_standby.specs.Store.{Stored, Place, same_key, place_of, is_stored, on_place, on_places, mark_durable, mark_all, session_at, or_new, new_place, opened, changed, taken_over}
use Rattle.model_standby.specs.State.{Settings, Counters, Bound, Standby, Result, Call, on_frame_held, on_frame, flush, disconnected_from, promote, promote_unchecked, new_standby, at_epoch, new_bound, none_held, numbered}
use Rattle.model_standby.specs.Handles.{without_others, room_at}
use Rattle.model_standby.specs.Standby.{with_handle, with_counters, bind_to, run_pending, due, says, refuse, flushed, summed, holding, applied, on_bind, on_handle, on_batch, on_intact, on_given, step, run}
use Rattle.model_standby.specs.PlainCopy.{OwnKey, own_key}
use Rattle.model_standby.specs.Demand.{ModelStart, Hands, by_held, by_frame}
use Rattle.model_standby.specs.OneHandle.{RowRules, Binds, is_bind, calls_bind, binds_again, Removed, SentToNew, OneHandle}
use Rattle.model_standby.proofs.Rules.{BoundValid, Valid}
use Rattle.model_standby.proofs.Rows.{find_freed, find_put_same, find_put_other, used_found, used_put, used_freed, used_none, used_map}
use Rattle.model_standby.proofs.Handles.{eqb_other, or_false, one_handle, others_none, others_forget, others_gone, set_apart, bind_apart, freed_apart, none_apart, used_others}
use Rattle.model_standby.proofs.Outcomes.{gathers_place, Batches, refuses, clears, raises, holds, applies, diverges, Does, turns, tells, nacks, greets, binds, checks, batches, does}
use Rattle.model_standby.proofs.Places.{map_some, open_length, open_few, open_there, key_at, place_low, place_key, earlier_none, earlier_append, own_made, pending_own, pending_session, length_on, length_places}
use Rattle.model_standby.proofs.Demand3.{demand_3, all_sent}
use Rattle.model_standby.proofs.RowKept.{length_run}
use Rattle.model_standby.proofs.Full.{rules_pending, never_21}

-- ---- the rules of the row are kept

module _ (L : Settings) where
  abbrev There : ℕ → Bound → Type 0
  There n b = b.place < n

  -- a bound handle gets another value, of the same session place
  rules_set : (s : Standby) (h : ℕ) (b b₁ : Bound) (ps : List Place) → length ps ≡ length s.places → find h s.handles ≡ some b → b₁.place ≡ b.place → There (length s.places) b → RowRules L s
      → (c : Counters) (pending : List (ℕ × ℕ)) → RowRules L (record { counters = c; places = ps; handles = put h b₁ s.handles; pending = pending })
  rules_set s h b b₁ ps e f at o r c pending =
      record {
        places_few = omega (arith, e, r.places_few);
        handles_there = used_put (There (length ps)) h b₁ s.handles (omega (arith, e, at, o)) (used_map (There (length s.places)) (There (length ps)) (λ x q. omega (arith, e, q)) s.handles r.handles_there);
        row_apart = set_apart h b b₁ s.handles r.row_apart f at;
      }

  rules_batch : {s : Standby} {h n : ℕ} {p : Part} {cs : List Change} {r : Result} → Batches L s h n p cs r → RowRules L s → RowRules L r.state
  rules_batch (refuses t) r = r
  rules_batch {s} {h} (clears {b} f) r = rules_set s h b (none_held b) s.places refl f refl (used_found (There (length s.places)) h b s.handles r.handles_there f) r s.counters s.pending
  rules_batch {s} {h} {cs} (raises {b} f t) r = rules_set s h b (summed b cs) s.places refl f refl (used_found (There (length s.places)) h b s.handles r.handles_there f) r s.counters s.pending
  rules_batch {s} {h} {n} {cs} (holds {b} f e q) r = rules_set s h b (holding b n cs) s.places refl f refl (used_found (There (length s.places)) h b s.handles r.handles_there f) r s.counters s.pending
  rules_batch {s} {h} {n} (applies {b} {b₁} {all} f g t) r =
      rules_set s h b (numbered n b₁) (applied L s h b₁ n all).places (length_on b₁.place (changed L.C L.M all) s.places) f (gathers_place L g)
      (used_found (There (length s.places)) h b s.handles r.handles_there f) r s.counters (applied L s h b₁ n all).pending
  rules_batch {s} {h} (diverges {b} {b₁} f g) r =
      rules_set s h b b₁ s.places refl f (gathers_place L g) (used_found (There (length s.places)) h b s.handles r.handles_there f) r s.counters s.pending

  rules_unbound : (s : Standby) (c : Counters) (ps : List Place) (pending : List (ℕ × ℕ)) → length ps ≡ length s.places → RowRules L s
      → RowRules L (record { counters = c; places = ps; handles = freed s.handles; pending = pending })
  rules_unbound s c ps pending e r = record { places_few = omega (arith, e, r.places_few); handles_there = used_freed (There (length ps)) s.handles; row_apart = freed_apart s.handles }

  rules_does : {s : Standby} {f : Frame} {r : Result} → Does L s f r → RowRules L s → RowRules L r.state
  rules_does (turns t) r = r
  rules_does tells r = r
  rules_does (nacks q) r = r
  rules_does {s} (greets {e} le) r = rules_unbound s _ s.places [] refl r
  rules_does {s} (binds {h} {k} le st p q) r =
      record {
        places_few = open_few k s.places L.S r.places_few p;
        handles_there =
            used_put (There (length (opened k s.places))) h (new_bound (place_of k s.places)) (without_others h (place_of k s.places) s.handles) (open_there k s.places)
            (used_others (There (length (opened k s.places))) h (place_of k s.places) s.handles
            (used_map (There (length s.places)) (There (length (opened k s.places))) (λ b o. omega (arith, o, open_length k s.places)) s.handles r.handles_there));
        row_apart = bind_apart h (place_of k s.places) (new_bound (place_of k s.places)) s.handles r.row_apart refl;
      }
  rules_does (checks le) r = record { places_few = r.places_few; handles_there = r.handles_there; row_apart = r.row_apart }
  rules_does (batches le d) r = rules_batch d (record { places_few = r.places_few; handles_there = r.handles_there; row_apart = r.row_apart })

  rules_given : (s : Standby) (g : Given) → RowRules L s → RowRules L (on_given L s g).state
  unfolding on_given
  rules_given s (damaged n) r = r
  rules_given s (intact f) r =
      cond_cases (λ (x : Result). RowRules L x.state) s.counters.promoted (λ _. r) (λ _. rules_does (does L (run_pending (due s.pending f) s) f) (rules_pending L (due s.pending f) s r))

  rules_step : (s : Standby) (c : Call) → RowRules L s → RowRules L (step L s c).state
  unfolding step
  rules_step s (on_frame_held w) r = rules_given s (given s.counters.version w) r
  rules_step s (on_frame w) r = rules_pending L (is_reply (on_given L s (given s.counters.version w)).answer) (on_given L s (given s.counters.version w)).state (rules_given s (given s.counters.version w) r)
  rules_step s (flush n) r = cond_cases (λ (x : Result). RowRules L x.state) (not (eqb n s.counters.connections) || s.counters.promoted) (λ _. r) (λ _. rules_pending L true s r)
  rules_step s (disconnected_from n) r = cond_cases (RowRules L) (eqb n s.counters.connections) (λ _. rules_unbound s s.counters s.places [] refl r) (λ _. r)
  rules_step s promote r =
      cond_cases (λ (x : Result). RowRules L x.state) s.counters.checked (λ _. rules_unbound s _ (on_places (taken_over L.lag) s.places) [] (length_places (taken_over L.lag) s.places) r) (λ _. r)
  rules_step s promote_unchecked r = rules_unbound s _ (on_places (taken_over L.lag) s.places) [] (length_places (taken_over L.lag) s.places) r

  pub rules_run : (s : Standby) (cs : List Call) → RowRules L s → RowRules L (run L s cs)
  rules_run s [] r = r
  rules_run s (c ∷ cs) r = rules_run (step L s c).state cs (rules_step s c r)

-- ---- an accepted Bind

place_on : (k : Key) (m : ℕ) (f : Stored → Stored) (ps : List Place) → place_of k (on_place m f ps) ≡ place_of k ps
place_on k m f [] = refl
place_on k zero f (x ∷ ps) = refl
place_on k (suc m) f (x ∷ ps) = ap (λ (n : ℕ). cond (same_key k x.key) 0 (suc n)) (place_on k m f ps)

place_mark : (k : Key) (cs : List (ℕ × ℕ)) (ps : List Place) → place_of k (mark_all cs ps) ≡ place_of k ps
place_mark k [] ps = refl
place_mark k (c ∷ cs) ps = place_mark k cs (on_place c.1 mark_durable ps) ∙ place_on k c.1 mark_durable ps

place_pending : (k : Key) (now : Bool) (s : Standby) → place_of k (run_pending now s).places ≡ place_of k s.places
place_pending k true s = place_mark k s.pending s.places
place_pending k false s = refl

-- a Bind that was accepted has bound; of other frames nothing is said
abbrev Bound_so : Standby → Frame → Result → Type 0
Bound_so s (hello v e node kinds) r = Unit {0}
Bound_so s (welcome e i) r = Unit {0}
Bound_so s (bind h e lag k) r = (r.state ≡ bind_to s h k) × (room_at h s.handles (place_of k s.places) ≡ true)
Bound_so s (batch h e n p cs apps) r = Unit {0}
Bound_so s (ack h n) r = Unit {0}
Bound_so s (nack h x) r = Unit {0}
Bound_so s (bound h m) r = Unit {0}
Bound_so s (checked h e i) r = Unit {0}

bound_so : {L : Settings} {s : Standby} {f : Frame} {r : Result} → Does L s f r → T (accepted r.answer) → Bound_so s f r
bound_so (turns t) u = absurd u
bound_so tells u = tt
bound_so (nacks q) u = absurd u
bound_so (greets le) u = tt
bound_so (binds le st p q) u = (refl, q)
bound_so (checks le) u = tt
bound_so (batches le d) u = tt

module _ (L : Settings) where
  step_answer : (s : Standby) (c : Call) (w : List ℕ) → Hands c w → (step L s c).answer ≡ (on_given L s (given s.counters.version w)).answer
  unfolding step
  step_answer s c w by_held = refl
  step_answer s c w by_frame = refl

  -- what an accepted Bind finds and leaves: due commits have run before it, or after it, or neither
  record Took (s : Standby) (c : Call) (h : ℕ) (k : Key) : Type 0 where
    now : Bool
    again : Bool
    unpromoted : s.counters.promoted ≡ false
    room : room_at h s.handles (place_of k s.places) ≡ true
    is : (step L s c).state ≡ run_pending again (bind_to (run_pending now s) h k)

  took : (s : Standby) (c : Call) (h : ℕ) (k : Key) → Binds L s c h k → Took s c h k
  unfolding step on_given
  took s c h k q = go q.hands s.counters.promoted refl (subst (λ (a : Answer). T (accepted a)) (step_answer s c q.bytes q.hands ∙ ap (λ (g : Given). (on_given L s g).answer) q.reads) q.is_accepted)
    where
      f : Frame
      f = bind h q.epoch q.lag k

      -- on_frame
      kept : {c : Call} → Hands c q.bytes → (on_given L s (given s.counters.version q.bytes)).state ≡ bind_to (run_pending (due s.pending f) s) h k
          → (again : Bool) × ((step L s c).state ≡ run_pending again (bind_to (run_pending (due s.pending f) s) h k))
      kept by_held p = (false, p)
      kept by_frame p = (is_reply (on_given L s (given s.counters.version q.bytes)).answer, ap (run_pending (is_reply (on_given L s (given s.counters.version q.bytes)).answer)) p)

      go : {c : Call} → Hands c q.bytes → (b : Bool) → s.counters.promoted ≡ b → T (accepted (cond b (refuse s 10) (on_intact L (run_pending (due s.pending f) s) f)).answer) → Took s c h k
      go hands true p u = absurd u
      go hands false p u =
          let z = bound_so (does L (run_pending (due s.pending f) s) f) u in
          let y = kept hands (ap (λ (g : Given). (on_given L s g).state) q.reads ∙ ap (λ (r : Result). r.state) (cond-false _ _ p) ∙ z.0) in
          record { now = due s.pending f; again = y.0; unpromoted = p; room = ap (room_at h s.handles) (sym (place_pending k (due s.pending f) s)) ∙ z.1; is = y.1 }

  -- the row after it
  row_after : (s : Standby) (c : Call) (h : ℕ) (k : Key) → Took s c h k → (step L s c).state.handles ≡ put h (new_bound (place_of k s.places)) (without_others h (place_of k s.places) s.handles)
  row_after s c h k t = ap (λ (x : Standby). x.handles) t.is ∙ ap (λ (p : ℕ). put h (new_bound p) (without_others h p s.handles)) (place_pending k t.now s)

  -- ---- another handle that had the session

  none_set : (g h : ℕ) (b x : Bound) (t : Row Bound) → find h t ≡ some b → find g t ≡ none → find g (put h x t) ≡ none
  none_set g h b x t f n = go (eqb g h) refl
    where
      go : (c : Bool) → eqb g h ≡ c → find g (put h x t) ≡ none
      go true q = absurd (none≢some (sym n ∙ ap (λ (y : ℕ). find y t) (eqb_sound g h q) ∙ f))
      go false q = find_put_other g h x t q ∙ n

  none_batch : {s : Standby} {h n : ℕ} {p : Part} {cs : List Change} {r : Result} (g : ℕ) → Batches L s h n p cs r → find g s.handles ≡ none → find g r.state.handles ≡ none
  none_batch g (refuses t) u = u
  none_batch {s} {h} g (clears {b} f) u = none_set g h b (none_held b) s.handles f u
  none_batch {s} {h} {cs} g (raises {b} f t) u = none_set g h b (summed b cs) s.handles f u
  none_batch {s} {h} {n} {cs} g (holds {b} f e q) u = none_set g h b (holding b n cs) s.handles f u
  none_batch {s} {h} {n} g (applies {b} {b₁} f x t) u = none_set g h b (numbered n b₁) s.handles f u
  none_batch {s} {h} g (diverges {b} {b₁} f x) u = none_set g h b b₁ s.handles f u

  none_does : {s : Standby} {f : Frame} {r : Result} (g : ℕ) → Does L s f r → find g s.handles ≡ none → (is_bind g (intact f) && accepted r.answer) ≡ false → find g r.state.handles ≡ none
  none_does g (turns t) u v = u
  none_does g tells u v = u
  none_does g (nacks q) u v = u
  none_does {s} g (greets le) u v = find_freed g s.handles
  none_does {s} g (binds {h} {k} le st p q) u v = go (eqb g h) refl v
    where
      go : (b : Bool) → eqb g h ≡ b → (b && true) ≡ false → find g (put h (new_bound (place_of k s.places)) (without_others h (place_of k s.places) s.handles)) ≡ none
      go true e w = absurd (true≢false w)
      go false e w = find_put_other g h (new_bound (place_of k s.places)) (without_others h (place_of k s.places) s.handles) e ∙ others_none h (place_of k s.places) g s.handles u
  none_does g (checks le) u v = u
  none_does g (batches le d) u v = none_batch g d u

  none_given : (s : Standby) (g : ℕ) (x : Given) → find g s.handles ≡ none → (is_bind g x && accepted (on_given L s x).answer) ≡ false → find g (on_given L s x).state.handles ≡ none
  unfolding on_given
  none_given s g (damaged n) u v = u
  none_given s g (intact f) u v =
      (cond_cases (λ (r : Result). (is_bind g (intact f) && accepted r.answer) ≡ false → find g r.state.handles ≡ none) s.counters.promoted (λ _ _. u)
      (λ _ w. none_does g (does L (run_pending (due s.pending f) s) f) u w)) v

  none_step : (s : Standby) (g : ℕ) (c : Call) → find g s.handles ≡ none → (calls_bind s.counters.version g c && accepted (step L s c).answer) ≡ false → find g (step L s c).state.handles ≡ none
  unfolding step
  none_step s g (on_frame_held w) u v = none_given s g (given s.counters.version w) u v
  none_step s g (on_frame w) u v = none_given s g (given s.counters.version w) u v
  none_step s g (flush n) u v = cond_cases (λ (r : Result). find g r.state.handles ≡ none) (not (eqb n s.counters.connections) || s.counters.promoted) (λ _. u) (λ _. u)
  none_step s g (disconnected_from n) u v = cond_cases (λ (x : Standby). find g x.handles ≡ none) (eqb n s.counters.connections) (λ _. find_freed g s.handles) (λ _. u)
  none_step s g promote u v = cond_cases (λ (r : Result). find g r.state.handles ≡ none) s.counters.checked (λ _. find_freed g s.handles) (λ _. u)
  none_step s g promote_unchecked u v = find_freed g s.handles

  none_run : (s : Standby) (g : ℕ) (cs : List Call) → find g s.handles ≡ none → binds_again L g s cs ≡ false → find g (run L s cs).handles ≡ none
  none_run s g [] u v = u
  none_run s g (c ∷ cs) u v =
      let z = or_false (calls_bind s.counters.version g c && accepted (step L s c).answer) (binds_again L g (step L s c).state cs) v in
      none_run (step L s c).state g cs (none_step s g c u z.0) z.1

  -- a Batch on a handle that is unbound
  unbound_14 : (s : Standby) (d : Call) (w : List ℕ) (g e n : ℕ) (p : Part) (own : List Change) → find g s.handles ≡ none → s.counters.promoted ≡ false → Hands d w → given s.counters.version w ≡ intact (batch g e n p own [])
      → s.counters.epoch ≤ e → (step L s d).answer ≡ refused 14
  unfolding on_given on_batch on_handle
  unbound_14 s d w g e n p own u q hands reads le =
      step_answer s d w hands ∙ ap (λ (x : Given). (on_given L s x).answer) reads ∙ ap (λ (r : Result). r.answer) (cond-false _ _ q ∙ cond-false _ _ (ltb_false {m = e} {n = s.counters.epoch} le))
      ∙ ap (λ (o : Option Bound). (on_handle L (with_counters (run_pending (due s.pending (batch g e n p own [])) s) (at_epoch e s.counters)) g o n p own).answer) u

  -- ---- what it held is nothing to what comes

  -- s with another row
  abbrev rowed : Standby → Row Bound → Standby
  rowed s t = record { counters = s.counters; places = s.places; handles = t; pending = s.pending }

  bind_same : (s : Standby) (t : Row Bound) (h e lag : ℕ) (k : Key) → without_others h (place_of k s.places) t ≡ without_others h (place_of k s.places) s.handles → T (accepted (on_bind L s h e lag k).answer)
      → on_bind L (rowed s t) h e lag k ≡ on_bind L s h e lag k
  unfolding on_bind
  bind_same s t h e lag k p u = go (ltb e s.counters.epoch) (ltb L.lag lag) (not (suits s.counters.version (or_new (session_at s.places (place_of k s.places))).stamp)) (not (is_stored k s.places || ltb (length s.places) L.S)) u
    where
      W : Row Bound
      W = without_others h (place_of k s.places) s.handles

      Told : Row Bound → Result
      Told X =
          says (record { counters = s.counters; places = opened k s.places; handles = put h (new_bound (place_of k s.places)) X; pending = s.pending })
          (bound h (summary (or_new (session_at s.places (place_of k s.places))) lag))

      last : (d : Bool) → T (accepted (cond (not d) (refuse s 21) (Told W)).answer) → cond (not d) (refuse (rowed s t) 21) (Told W) ≡ cond (not d) (refuse s 21) (Told W)
      last true u = refl
      last false u = absurd u

      go : (a b v c : Bool)
          → T (accepted (cond a (says s (nack h stale_epoch)) (cond b (says s (nack h lag_too_great)) (cond v (refuse s 32) (cond c (refuse s 20) (cond (not (has_room h W)) (refuse s 21) (Told W)))))).answer)
          → cond a (says (rowed s t) (nack h stale_epoch)) (cond b (says (rowed s t) (nack h lag_too_great)) (cond v (refuse (rowed s t) 32) (cond c (refuse (rowed s t) 20)
          (cond (not (room_at h t (place_of k s.places))) (refuse (rowed s t) 21) (Told (without_others h (place_of k s.places) t))))))
          ≡ cond a (says s (nack h stale_epoch)) (cond b (says s (nack h lag_too_great)) (cond v (refuse s 32) (cond c (refuse s 20) (cond (not (has_room h W)) (refuse s 21) (Told W)))))
      go true b v c u = absurd u
      go false true v c u = absurd u
      go false false true c u = absurd u
      go false false false true u = absurd u
      go false false false false u = ap (λ (X : Row Bound). cond (not (has_room h X)) (refuse (rowed s t) 21) (Told X)) p ∙ last (has_room h W) u

  step_same : (s : Standby) (t : Row Bound) (c : Call) (h : ℕ) (k : Key) → Binds L s c h k → without_others h (place_of k s.places) t ≡ without_others h (place_of k s.places) s.handles
      → step L (rowed s t) c ≡ step L s c
  unfolding step on_given
  step_same s t c h k q p = go q.hands
    where
      f : Frame
      f = bind h q.epoch q.lag k

      there : (n : ℕ) → n ≡ place_of k s.places → without_others h n t ≡ without_others h n s.handles
      there n e = subst (λ (m : ℕ). without_others h m t ≡ without_others h m s.handles) (sym e) p

      on : (b : Bool) → T (accepted (cond b (refuse s 10) (on_intact L (run_pending (due s.pending f) s) f)).answer)
          → cond b (refuse (rowed s t) 10) (on_intact L (run_pending (due s.pending f) (rowed s t)) f) ≡ cond b (refuse s 10) (on_intact L (run_pending (due s.pending f) s) f)
      on true u = absurd u
      on false u = bind_same (run_pending (due s.pending f) s) t h q.epoch q.lag k (there (place_of k (run_pending (due s.pending f) s).places) (place_pending k (due s.pending f) s)) u

      same : on_given L (rowed s t) (given s.counters.version q.bytes) ≡ on_given L s (given s.counters.version q.bytes)
      same =
          ap (on_given L (rowed s t)) q.reads
          ∙ on s.counters.promoted (subst (λ (a : Answer). T (accepted a)) (step_answer s c q.bytes q.hands ∙ ap (λ (g : Given). (on_given L s g).answer) q.reads) q.is_accepted)
          ∙ sym (ap (on_given L s) q.reads)

      go : {c : Call} → Hands c q.bytes → step L (rowed s t) c ≡ step L s c
      go by_held = same
      go by_frame = ap flushed same

  pub removed : (s : Standby) (c : Call) (h g : ℕ) (k : Key) (b : Bound) → RowRules L s → Binds L s c h k → eqb h g ≡ false → find g s.handles ≡ some b → b.place ≡ place_of k s.places → Removed L s c g b
  removed s c h g k b r q n f at =
      record {
        unbound_so = λ cs u. none_run (step L s c).state g cs gone u;
        batch_is_14 = λ cs u p d w e m part own hands reads le. unbound_14 (run L s (c ∷ cs)) d w g e m part own (none_run (step L s c).state g cs gone u) p hands reads le;
        forgotten = λ x e cs. ap (λ (y : Result). run L y.state cs) (same x e);
        same_answer = λ x e. ap (λ (y : Result). y.answer) (same x e);
        same_answers = λ x e cs d. ap (λ (y : Result). (step L (run L y.state cs) d).answer) (same x e);
      }
    where
      same : (x : Bound) → x.place ≡ b.place → step L (with_handle s g x) c ≡ step L s c
      same x e = step_same s (put g x s.handles) c h k q (others_forget h g (place_of k s.places) b x s.handles f n at (e ∙ at))

      gone : find g (step L s c).state.handles ≡ none
      gone =
          ap (find g) (row_after s c h k (took s c h k q))
          ∙ find_put_other g h (new_bound (place_of k s.places)) (without_others h (place_of k s.places) s.handles) (eqb_other h g n)
          ∙ ap (λ (p : ℕ). find g (without_others h p s.handles)) (sym at)
          ∙ others_gone h g b s.handles r.row_apart f n

-- ---- its own

at_end : (ps : List Place) (x : Place) → get_elem? (ps ++ (x ∷ [])) (length ps) ≡ some x
at_end [] x = refl
at_end (y ∷ ps) x = at_end ps x

past_end : (ps : List Place) → get_elem? ps (length ps) ≡ none
past_end [] = refl
past_end (y ∷ ps) = past_end ps

-- what a Bind finds, or a new session
open_found : (k : Key) (ps : List Place) → session_at (opened k ps) (place_of k ps) ≡ some (or_new (session_at ps (place_of k ps)))
open_found k ps =
    cond_cases (λ (l : List Place). session_at l (place_of k ps) ≡ some (or_new (session_at ps (place_of k ps)))) (is_stored k ps)
    (λ t. let m = map_some (λ (x : Place). x.key) (get_elem? ps (place_of k ps)) k (place_key k ps (ltb→lt (place_of k ps) (length ps) t)) in found (get_elem? ps (place_of k ps)) m.0 m.1)
    (λ t. new (last t))
  where
    found : (o : Option Place) (x : Place) → o ≡ some x → option.map (λ (x : Place). x.stored.session) o ≡ some (or_new (option.map (λ (x : Place). x.stored.session) o))
    found none x e = absurd (none≢some e)
    found (some y) x e = refl

    last : T (not (is_stored k ps)) → place_of k ps ≡ length ps
    last t = omega (arith, place_low k ps, nltb→le (place_of k ps) (length ps) t)

    new : place_of k ps ≡ length ps → session_at (ps ++ (new_place k ∷ [])) (place_of k ps) ≡ some (or_new (session_at ps (place_of k ps)))
    new e =
        ap (session_at (ps ++ (new_place k ∷ []))) e
        ∙ ap (option.map (λ (x : Place). x.stored.session)) (at_end ps (new_place k))
        ∙ sym (ap (λ (n : ℕ). some (or_new (session_at ps n))) e ∙ ap (λ (o : Option Place). some (or_new (option.map (λ (x : Place). x.stored.session) o))) (past_end ps))

open_key : (k : Key) (ps : List Place) → own_key (opened k ps) (place_of k ps) ≡ some (record { key = k; earlier = 0 })
open_key k ps =
    cond_cases (λ (l : List Place). own_key l (place_of k ps) ≡ some (record { key = k; earlier = 0 })) (is_stored k ps)
    (λ t. own_made ps (place_of k ps) (record { key = k; earlier = 0 }) (place_key k ps (ltb→lt (place_of k ps) (length ps) t)) (sym (earlier_none k ps)))
    (λ t. new (omega (arith, place_low k ps, nltb→le (place_of k ps) (length ps) t)))
  where
    new : place_of k ps ≡ length ps → own_key (ps ++ (new_place k ∷ [])) (place_of k ps) ≡ some (record { key = k; earlier = 0 })
    new e =
        own_made (ps ++ (new_place k ∷ [])) (place_of k ps) (record { key = k; earlier = 0 })
        (ap (key_at (ps ++ (new_place k ∷ []))) e ∙ ap (option.map (λ (x : Place). x.key)) (at_end ps (new_place k)))
        (sym (earlier_append k (place_of k ps) ps (new_place k ∷ []) (place_low k ps) ∙ earlier_none k ps))

module _ (L : Settings) (limit : ℕ) (A : Session) (s : Standby) (h : ℕ) (k : Key) where
  -- its session place
  abbrev P : ℕ
  P = place_of k s.places

  abbrev B : Session
  B = or_new (session_at s.places P)

  abbrev K : OwnKey
  K = record { key = k; earlier = 0 }

  -- as an accepted Bind leaves it
  abbrev bound_state : Bool → Bool → Standby
  bound_state now again = run_pending again (bind_to (run_pending now s) h k)

  starts : (now again : Bool) → RowRules L s → s.counters.promoted ≡ false → room_at h s.handles P ≡ true → L.C ≤ 33554432 → L.M ≤ 65536 → Holdable L.C L.M A → suits s.counters.version A.stamp ≡ true → hold_length L.C L.M A.stamp ≤ L.room
      → h < 2 ^ 32 → s.counters.epoch ≤ top → length (whole_batches limit A) ≤ top → ModelStart L limit A B K h (new_bound P) (bound_state now again)
  starts now again r q room C_limit M_limit held suit area h_u32 e_u64 few =
      record {
        C_limit = C_limit;
        M_limit = M_limit;
        A_held = held;
        unpromoted = q;
        row_apart = bind_apart h P₁ (new_bound P₁) s.handles r.row_apart refl;
        bound_so = find_put_same h (new_bound P₁) (without_others h P₁ s.handles) (ap (room_at h s.handles) same ∙ room) ∙ ap (λ (n : ℕ). some (new_bound n)) same;
        is_B =
            ap (session_at (bound_state now again).places) (sym same) ∙ pending_session again (bind_to (run_pending now s) h k) P₁ ∙ open_found k (run_pending now s).places
            ∙ ap (λ (o : Option Session). some (or_new o)) (pending_session now s P₁ ∙ ap (session_at s.places) same);
        its_key = ap (own_key (bound_state now again).places) (sym same) ∙ pending_own again (bind_to (run_pending now s) h k) P₁ K (open_key k (run_pending now s).places);
        nothing_held = refl;
        suits_so = suit;
        area = area;
        handle_u32 = h_u32;
        epoch_u64 = e_u64;
        sendable = omega (arith, few);
      }
    where
      P₁ : ℕ
      P₁ = place_of k (run_pending now s).places

      same : P₁ ≡ P
      same = place_pending k now s

  module _ (c : Call) (r : RowRules L s) (q : Binds L s c h k) (C_limit : L.C ≤ 33554432) (M_limit : L.M ≤ 65536) (held : Holdable L.C L.M A) (suit : suits s.counters.version A.stamp ≡ true) (area : hold_length L.C L.M A.stamp ≤ L.room)
      (h_u32 : h < 2 ^ 32) (e_u64 : s.counters.epoch ≤ top) (few : length (whole_batches limit A) ≤ top) where
    -- the start of demand 3
    pub starts_after : ModelStart L limit A B K h (new_bound P) (step L s c).state
    starts_after = subst (ModelStart L limit A B K h (new_bound P)) (sym t.is) (starts t.now t.again r t.unpromoted t.room C_limit M_limit held suit area h_u32 e_u64 few)
      where
        t : Took L s c h k
        t = took L s c h k q

    sent : SentToNew L limit A B k h P (step L s c).state
    sent =
        record {
          claim = λ cs d. demand_3 L limit A B K h (new_bound P) (step L s c).state starts_after cs d;
          ends_in_A = all_sent L limit A B K h (new_bound P) (step L s c).state starts_after;
        }

-- ---- the theorem

pub one_handle_each : (L : Settings) (s : Standby) → RowRules L s → OneHandle L s
one_handle_each L s r =
    record {
      one_each = λ cs g h a b p q e. one_handle g h a b (run L s cs).handles (rules_run L s cs r).row_apart p q e;
      row_apart = λ cs. (rules_run L s cs r).row_apart;
      never_full = λ long cs c. never_21 L (run L s cs) c (rules_run L s cs r) (omega (arith, long, length_run L s cs));
      removes = λ c h g k b q n f at. removed L s c h g k b r q n f at;
      sent_to_new = λ limit A c h k q C_limit M_limit held suit area h_u32 e_u64 few. sent L limit A s h k c r q C_limit M_limit held suit area h_u32 e_u64 few;
    }

-- a state that docs/AREAS.md allows keeps the rules of the row
pub valid_row : (L : Settings) (s : Standby) → Valid L s → RowRules L s
valid_row L s v =
    record {
      places_few = v.places_few;
      handles_there = used_map (BoundValid L (length s.places)) (λ (b : Bound). b.place < length s.places) (λ b o. o.place_there) s.handles v.handles_ok;
      row_apart = v.row_apart;
    }

-- so does a new standby
pub new_row : (L : Settings) (ps : List Place) (n : ℕ) → length ps ≤ L.S → RowRules L (new_standby ps n)
new_row L ps n few = record { places_few = few; handles_there = used_none (λ (b : Bound). b.place < length ps) n; row_apart = none_apart n }
