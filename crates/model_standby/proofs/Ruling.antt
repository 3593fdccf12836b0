-- Every call keeps the rules of the state, refused calls too: those of any content, and those of what a new standby reaches.
-- Assumes nothing.
use mathlib.Core.Path.{◌≡◌, refl, sym, ap, ◌∙◌}
use Prim.Native.Nat.{ℕ, zero, suc, ◌+◌, ◌-◌, ◌≤◌, ◌<◌, min}
use native.Mathlib.Omega.{arith}
use native.Mathlib.Nat.{le_trans, le_refl, le_of_eq}
use mathlib.Core.List.{List, [], ◌∷◌, ◌++◌}
use mathlib.Core.Option.{Option, some, map}
use mathlib.Core.Bool.{Bool, true, false, cond, not, ◌&&◌, ◌||◌}
use lib.ListN.{length, length-append, get_or, take, length-take, get_elem?}
use lib.Dec.{T, ltb, leb, eqb, nleb→lt}
use Rattle.model_session.proofs.Storable.{Storable}
use Rattle.model_frame.proofs.Texts.{ByteChange, ByteFrame}
use Rattle.model_text.specs.Printable.{is_printable_byte, all_printable, is_printable, is_marks}
use Rattle.model_text.specs.Stamp.{is_stamp, takes_stamp}
use Rattle.model_text.specs.Utf8.{utf8}
use Rattle.model_text.proofs.Laws.{marks_is, takes_keeps}
use Rattle.model_text.specs.Version.{latest}
use Rattle.model_frame.specs.Frame.{Key, Change, set_incoming, set_incoming_in_flight, set_in_flight, record_msg, record_bare, reset, set_created_at, set_marks, Part, Frame, hello, welcome, bind, batch, ack, nack, bound, checked, Decoded, more, faulty, got}
use Rattle.model_frame.specs.Parse.{is_empty, Each}
use Rattle.model_frame.specs.Reading.{decode, max_body}
use Rattle.model_frame.specs.Writing.{fine, fine_change, all_fine, Ranged, RangedChange}
use Rattle.model_frame.specs.Sizes.{sizes}
use Rattle.model_frame.proofs.Sizes.{body_size_lem}
use Rattle.model_frame.proofs.Sound.{decode_sound}
use Rattle.model_frame.proofs.Wider.{decode_wider}
use Rattle.model_session.specs.Session.{fits, message_bytes, top, Holdable, is_bytes}
use Rattle.model_session.proofs.Basics.{T→true, true→T, and_l, and_r, and_true, leb_true, cond_cases, true≢false, each_append}
use Rattle.model_session.proofs.Sending.{message_bytes_append}
use Rattle.model_session.proofs.Keeping.{apply_all_keeps, rising_up, new_holdable}
use Rattle.model_standby.specs.Answer.{Given, damaged, intact, judged, given, is_reply}
use Rattle.model_standby.specs.Row.{Row, Used, find}
use Rattle.model_standby.specs.Store.{Stored, Place, place_of, is_stored, on_place, session_at, or_new, new_place, opened, changed, with_b, taken_over}
use Rattle.model_standby.specs.State.{Settings, Bound, Standby, Result, Call, on_frame_held, on_frame, flush, disconnected_from, promote, promote_unchecked, new_standby, at_epoch, new_bound, none_held, numbered}
use Rattle.model_standby.specs.Handles.{without_others}
use Rattle.model_standby.specs.Standby.{with_counters, with_handle, unbound, run_pending, due, pends_on, bind_to, held_sum, raised, max_whole, starts_with_reset, summed, holding, applied, on_given, promotion, step, run}
use Rattle.model_standby.proofs.Rules.{OkCall, changes_of, Readable, BoundValid, BoundUsual, StateRules, Valid, Usual}
use Rattle.model_standby.proofs.Outcomes.{Gathers, of_commit, of_last, gathers_place, Batches, refuses, clears, raises, holds, applies, diverges, Does, turns, tells, nacks, greets, binds, checks, batches, does}
use Rattle.model_standby.proofs.Rows.{used_found, used_put, used_freed, used_none, used_map}
use Rattle.model_standby.proofs.Handles.{set_apart, bind_apart, freed_apart, none_apart, used_others}
use Rattle.model_standby.proofs.Places.{open_length, open_few, open_there, length_on, pending_length, length_places, each_at, each_on, each_places, each_mark}
use Rattle.model_standby.proofs.Taking.{starts_append}

bytes_in_size : (cs : List Change) → message_bytes cs ≤ sizes cs
bytes_in_size [] = omega arith
bytes_in_size (set_incoming n ∷ cs) = omega (arith, bytes_in_size cs)
bytes_in_size (set_incoming_in_flight n f ∷ cs) = omega (arith, bytes_in_size cs)
bytes_in_size (set_in_flight f ∷ cs) = omega (arith, bytes_in_size cs)
bytes_in_size (record_msg q w ∷ cs) = omega (arith, bytes_in_size cs)
bytes_in_size (record_bare q ∷ cs) = omega (arith, bytes_in_size cs)
bytes_in_size (reset ∷ cs) = omega (arith, bytes_in_size cs)
bytes_in_size (set_created_at t ∷ cs) = omega (arith, bytes_in_size cs)
bytes_in_size (set_marks m ∷ cs) = omega (arith, bytes_in_size cs)

-- what the reader lets pass, or its number
abbrev pub Passed : Given → Type 0
Passed (damaged n) = Unit {0}
Passed (intact f) = Readable f

-- what the operations make of a handle keeps `Also`
pub record Closed (Also : Bound → Type 0) : Type 0 where
  pub binds : (p : ℕ) → Also (new_bound p)
  pub clears : (b : Bound) → Also b → Also (none_held b)
  pub counts : (b : Bound) (m : ℕ) → Also b → Also (numbered m b)
  -- a 17
  pub raises : (b : Bound) (cs : List Change) → message_bytes cs ≤ max_body → max_whole < raised b cs → Also b → Also (summed b cs)
  -- a Whole
  pub takes : (b : Bound) (m : ℕ) (cs : List Change) → T (not (is_empty b.held && not (starts_with_reset cs))) → raised b cs ≤ max_whole → Also b → Also (holding b m cs)

module _ (L : Settings) (Also : Bound → Type 0) (closed : Closed Also) where
  -- what is stored at a place can be held
  abbrev Held : Place → Type 0
  Held x = Holdable L.C L.M x.stored.session

  abbrev Fine : ℕ → Bound → Type 0
  Fine n b = BoundValid L n b × Also b

  -- with more places
  grown : (m n : ℕ) (b : Bound) → m ≤ n → BoundValid L m b → BoundValid L n b
  grown m n b h o = record { place_there = le_trans o.place_there h; number_u64 = o.number_u64; bytes_u64 = o.bytes_u64; held_small = o.held_small; held_ok = o.held_ok }

  all_grown : (m n : ℕ) (t : Row Bound) → m ≤ n → Each (Used (BoundValid L m)) t → Each (Used (BoundValid L n)) t
  all_grown m n t h u = used_map (BoundValid L m) (BoundValid L n) (λ b o. grown m n b h o) t u

  rules_pending : (w : Bool) (s : Standby) → StateRules L Also s → StateRules L Also (run_pending w s)
  rules_pending w s r =
      record {
        epoch_u64 = r.epoch_u64;
        connections_u64 = r.connections_u64;
        places_few = le_trans (le_of_eq (pending_length w s)) r.places_few;
        sessions_ok = cond_cases (Each Held) w (λ _. each_mark Held s.pending s.places (λ _ h. h) r.sessions_ok) (λ _. r.sessions_ok);
        handles_ok = all_grown (length s.places) (length (run_pending w s).places) s.handles (le_of_eq (sym (pending_length w s))) r.handles_ok;
        handles_also = r.handles_also;
        row_apart = r.row_apart;
        pending_few = cond_cases (λ (l : List (ℕ × ℕ)). length l ≤ 64) w (λ _. omega arith) (λ _. r.pending_few);
      }

  rules_unbound : (s : Standby) → StateRules L Also s → StateRules L Also (unbound s)
  rules_unbound s r =
      record {
        epoch_u64 = r.epoch_u64;
        connections_u64 = r.connections_u64;
        places_few = r.places_few;
        sessions_ok = r.sessions_ok;
        handles_ok = used_freed (BoundValid L _) s.handles;
        handles_also = used_freed Also s.handles;
        row_apart = freed_apart s.handles;
        pending_few = omega arith;
      }

  rules_epoch : (s : Standby) (e : ℕ) → e ≤ top → StateRules L Also s → StateRules L Also (with_counters s (at_epoch e s.counters))
  rules_epoch s e h r =
      record { epoch_u64 = h; connections_u64 = r.connections_u64; places_few = r.places_few; sessions_ok = r.sessions_ok; handles_ok = r.handles_ok; handles_also = r.handles_also; row_apart = r.row_apart; pending_few = r.pending_few }

  all_fine_lem : (s : Standby) → StateRules L Also s → (x : ℕ) (y : Bound) → find x s.handles ≡ some y → Fine (length s.places) y
  all_fine_lem s r x y p = (used_found (BoundValid L (length s.places)) x y s.handles r.handles_ok p, used_found Also x y s.handles r.handles_also p)

  -- a bound handle gets another value, of the same session place
  rules_set : (s : Standby) (h : ℕ) (b₀ b : Bound) → find h s.handles ≡ some b₀ → b.place ≡ b₀.place → Fine (length s.places) b → StateRules L Also s → StateRules L Also (with_handle s h b)
  rules_set s h b₀ b f same fine r =
      record {
        epoch_u64 = r.epoch_u64;
        connections_u64 = r.connections_u64;
        places_few = r.places_few;
        sessions_ok = r.sessions_ok;
        handles_ok = used_put (BoundValid L (length s.places)) h b s.handles fine.0 r.handles_ok;
        handles_also = used_put Also h b s.handles fine.1 r.handles_also;
        row_apart = set_apart h b₀ b s.handles r.row_apart f same;
        pending_few = r.pending_few;
      }

  none_fine : (n : ℕ) (b : Bound) → Fine n b → Fine n (none_held b)
  none_fine n b o = (record { place_there = o.0.place_there; number_u64 = o.0.number_u64; bytes_u64 = omega arith; held_small = omega arith; held_ok = tt }, closed.clears b o.1)

  -- ---- a settled Batch

  sessions_changed : (ps : List Place) (n : ℕ) (cs : List Change) → Each Storable cs → fits (or_new (session_at ps n)).next_out cs ≡ true → Each Held ps → Each Held (on_place n (changed L.C L.M cs) ps)
  sessions_changed ps n cs o f r =
      each_on Held n (changed L.C L.M cs) ps
      (λ x p h. apply_all_keeps L.C L.M cs x.stored.session h o (sym (ap (λ (y : Option Place). fits (or_new (map (λ (z : Place). z.stored.session) y)).next_out cs) p) ∙ f)) r

  rules_applied : (s : Standby) (h : ℕ) (b₀ b : Bound) (n : ℕ) (cs : List Change) → find h s.handles ≡ some b₀ → b.place ≡ b₀.place → suc (length s.pending) ≤ 64 → n ≤ top → Each Storable cs
      → Fine (length s.places) b → fits (or_new (session_at s.places b.place)).next_out cs ≡ true → StateRules L Also s → StateRules L Also (applied L s h b n cs)
  rules_applied s h b₀ b n cs f at few hn o fine ft r =
      record {
        epoch_u64 = r.epoch_u64;
        connections_u64 = r.connections_u64;
        places_few = le_trans (le_of_eq same) r.places_few;
        sessions_ok = sessions_changed s.places b.place cs o ft r.sessions_ok;
        handles_ok = all_grown (length s.places) (length (applied L s h b n cs).places) (applied L s h b n cs).handles (le_of_eq (sym same)) (used_put (BoundValid L (length s.places)) h (numbered n b) s.handles fine₁.0 r.handles_ok);
        handles_also = used_put Also h (numbered n b) s.handles fine₁.1 r.handles_also;
        row_apart = set_apart h b₀ (numbered n b) s.handles r.row_apart f at;
        pending_few = omega (arith, length-append s.pending ((h, b.place) ∷ []));
      }
    where
      same : length (on_place b.place (changed L.C L.M cs) s.places) ≡ length s.places
      same = length_on b.place (changed L.C L.M cs) s.places

      fine₁ : Fine (length s.places) (numbered n b)
      fine₁ = (record { place_there = fine.0.place_there; number_u64 = hn; bytes_u64 = fine.0.bytes_u64; held_small = fine.0.held_small; held_ok = fine.0.held_ok }, closed.counts b n fine.1)

  abbrev Keeps : Result → Type 0
  Keeps x = StateRules L Also x.state

  -- ---- a Batch

  gather_fine : {p : Part} {b b₁ : Bound} {cs all : List Change} (n : ℕ) → Gathers L p b cs b₁ all → Fine n b → Each Storable cs → Fine n b₁ × Each Storable all
  gather_fine n (of_commit e) o oc = (o, oc)
  gather_fine n (of_last {b} {cs} q) o oc = (none_fine n b o, each_append Storable b.held cs o.0.held_ok oc)

  keeps_batch : {s : Standby} {h n : ℕ} {p : Part} {cs : List Change} {r : Result} → Batches L s h n p cs r → suc (length s.pending) ≤ 64 → n ≤ top → Each Storable cs → message_bytes cs ≤ max_body
      → StateRules L Also s → Keeps r
  keeps_batch (refuses t) few hn oc small r = r
  keeps_batch {s} {h} (clears {b} f) few hn oc small r = rules_set s h b (none_held b) f refl (none_fine (length s.places) b (all_fine_lem s r h b f)) r
  keeps_batch {s} {h} {cs} (raises {b} f t) few hn oc small r =
      let o = all_fine_lem s r h b f in
      rules_set s h b (summed b cs) f refl (
        record { place_there = o.0.place_there; number_u64 = o.0.number_u64; bytes_u64 = omega arith; held_small = o.0.held_small; held_ok = o.0.held_ok },
        closed.raises b cs small t o.1,
      ) r
  keeps_batch {s} {h} {n} {cs} (holds {b} f e q) few hn oc small r =
      let o = all_fine_lem s r h b f in
      rules_set s h b (holding b n cs) f refl (
        record { place_there = o.0.place_there; number_u64 = hn; bytes_u64 = omega arith; held_small = q.small; held_ok = each_append Storable b.held cs o.0.held_ok oc },
        closed.takes b n cs q.begins q.few o.1,
      ) r
  keeps_batch {s} {h} {n} (applies {b} {b₁} {all} f g t) few hn oc small r =
      let o = gather_fine (length s.places) g (all_fine_lem s r h b f) oc in
      rules_applied s h b b₁ n all f (gathers_place L g) few hn o.1 o.0 t r
  keeps_batch {s} {h} (diverges {b} {b₁} f g) few hn oc small r = rules_set s h b b₁ f (gathers_place L g) (gather_fine (length s.places) g (all_fine_lem s r h b f) oc).0 r

  -- ---- a Bind

  open_held : (j : Key) (ps : List Place) → Each Held ps → Each Held (opened j ps)
  open_held j ps h = cond_cases (Each Held) (is_stored j ps) (λ _. h) (λ _. each_append Held ps (new_place j ∷ []) h (new_holdable L.C L.M, tt))

  rules_bind : (s : Standby) (h : ℕ) (j : Key) → (is_stored j s.places || ltb (length s.places) L.S) ≡ true → StateRules L Also s → StateRules L Also (bind_to s h j)
  rules_bind s h j room r =
      record {
        epoch_u64 = r.epoch_u64;
        connections_u64 = r.connections_u64;
        places_few = open_few j s.places L.S r.places_few room;
        sessions_ok = open_held j s.places r.sessions_ok;
        handles_ok =
            used_put (BoundValid L (length (opened j s.places))) h (new_bound (place_of j s.places)) (without_others h (place_of j s.places) s.handles)
            (record { place_there = open_there j s.places; number_u64 = omega arith; bytes_u64 = omega arith; held_small = omega arith; held_ok = tt })
            (used_others (BoundValid L (length (opened j s.places))) h (place_of j s.places) s.handles
            (all_grown (length s.places) (length (opened j s.places)) s.handles (open_length j s.places) r.handles_ok));
        handles_also =
            used_put Also h (new_bound (place_of j s.places)) (without_others h (place_of j s.places) s.handles) (closed.binds (place_of j s.places))
            (used_others Also h (place_of j s.places) s.handles r.handles_also);
        row_apart = bind_apart h (place_of j s.places) (new_bound (place_of j s.places)) s.handles r.row_apart refl;
        pending_few = r.pending_few;
      }

  -- ---- every frame

  -- fewer than 64 commits are pending before a Batch
  abbrev Room : Standby → Frame → Type 0
  Room s (hello v e node kinds) = Unit {0}
  Room s (welcome e i) = Unit {0}
  Room s (bind h e lag k) = Unit {0}
  Room s (batch h e n p cs apps) = suc (length s.pending) ≤ 64
  Room s (ack h n) = Unit {0}
  Room s (nack h r) = Unit {0}
  Room s (bound h m) = Unit {0}
  Room s (checked h e i) = Unit {0}

  keeps : {s : Standby} {f : Frame} {r : Result} → Does L s f r → Room s f → Readable f → StateRules L Also s → Keeps r
  keeps (turns t) room o r = r
  keeps tells room o r = r
  keeps (nacks q) room o r = r
  keeps {s} (greets le) room o r =
      let u = rules_unbound s r in
      record { epoch_u64 = omega (arith, o.writable.ranged.1); connections_u64 = omega arith; places_few = u.places_few; sessions_ok = u.sessions_ok; handles_ok = u.handles_ok; handles_also = u.handles_also; row_apart = u.row_apart; pending_few = u.pending_few }
  keeps {s} (binds {h} {k} le st p q) room o r = rules_bind s h k p r
  keeps (checks le) room o r =
      record { epoch_u64 = omega (arith, o.writable.ranged.1); connections_u64 = r.connections_u64; places_few = r.places_few; sessions_ok = r.sessions_ok; handles_ok = r.handles_ok; handles_also = r.handles_also; row_apart = r.row_apart; pending_few = r.pending_few }
  keeps {s} (batches {h} {e} {n} {p} {cs} {apps} le d) room o r =
      keeps_batch d room (omega (arith, o.writable.ranged.2)) o.storable (omega (arith, bytes_in_size cs, o.writable.short, body_size_lem (batch h e n p cs apps)))
      (rules_epoch s e (omega (arith, o.writable.ranged.1)) r)

  -- before a Batch fewer than 64 commits are pending
  few_due : (s : Standby) (h : ℕ) (w : Bool) → (leb 64 (length s.pending) || pends_on h s.pending) ≡ w → suc (length (run_pending w s).pending) ≤ 64
  few_due s h true p = omega arith
  few_due s h false p = nleb→lt 64 (length s.pending) (go (leb 64 (length s.pending)) (pends_on h s.pending) p)
    where
      go : (a b : Bool) → (a || b) ≡ false → T (not a)
      go true b q = absurd (true≢false q)
      go false b q = tt

  room_due : (s : Standby) (f : Frame) → Room (run_pending (due s.pending f) s) f
  room_due s (hello v e node kinds) = tt
  room_due s (welcome e i) = tt
  room_due s (bind h e lag k) = tt
  room_due s (batch h e n p cs apps) = few_due s h (due s.pending (batch h e n p cs apps)) refl
  room_due s (ack h n) = tt
  room_due s (nack h r) = tt
  room_due s (bound h m) = tt
  room_due s (checked h e i) = tt

  keeps_given : (s : Standby) (g : Given) → Passed g → StateRules L Also s → Keeps (on_given L s g)
  unfolding on_given
  keeps_given s (damaged n) o r = r
  keeps_given s (intact f) o r = cond_cases Keeps s.counters.promoted (λ _. r) (λ _. keeps (does L (run_pending (due s.pending f) s) f) (room_due s f) o (rules_pending (due s.pending f) s r))

  -- ---- promotion

  plain_append : (x y : List ℕ) → all_printable x ≡ true → all_printable y ≡ true → all_printable (x ++ y) ≡ true
  plain_append [] y p q = q
  plain_append (a ∷ x) y p q = go (is_printable_byte a) p (λ t. plain_append x y t q)
    where
      go : (b : Bool) → (b && all_printable x) ≡ true → (all_printable x ≡ true → all_printable (x ++ y) ≡ true) → (b && all_printable (x ++ y)) ≡ true
      go true t ih = ih t
      go false t ih = t

  plain_take : (n : ℕ) (x : List ℕ) → all_printable x ≡ true → all_printable (take n x) ≡ true
  plain_take zero x p = refl
  plain_take (suc n) [] p = refl
  plain_take (suc n) (a ∷ x) p = go (is_printable_byte a) p (plain_take n x)
    where
      go : (b : Bool) → (b && all_printable x) ≡ true → (all_printable x ≡ true → all_printable (take n x) ≡ true) → (b && all_printable (take n x)) ≡ true
      go true t ih = ih t
      go false t ih = t

  marks_made : (m : List ℕ) → length m ≤ 64 → all_printable m ≡ true → T (is_marks m)
  unfolding is_marks is_printable
  marks_made m h p = true→T (leb 0 (length m) && (leb (length m) 64 && all_printable m)) (and_true (leb_true {m = 0} {n = length m} (omega arith)) (and_true (leb_true h) p))

  with_B : (m : List ℕ) → T (is_marks m) → T (is_marks (with_b m))
  unfolding is_printable_byte
  with_B m t =
      let i = marks_is m (T→true (is_marks m) t) in
      cond_cases (λ (l : List ℕ). T (is_marks l)) (ltb 0 (length m) && eqb (get_or m (length m - 1) 0) 66) (λ _. t)
      (λ _. cond_cases (λ (l : List ℕ). T (is_marks l)) (leb 64 (length m))
      (λ _. marks_made (take 63 m ++ (66 ∷ [])) (omega (arith, length-append (take 63 m) (66 ∷ []), length-take 63 m)) (plain_append (take 63 m) (66 ∷ []) (plain_take 63 m i.plain) refl))
      (λ u. marks_made (m ++ (66 ∷ [])) (omega (arith, length-append m (66 ∷ []), nleb→lt 64 (length m) u)) (plain_append m (66 ∷ []) i.plain refl)))

  taken_holdable : (lag : ℕ) (d : Stored) → Holdable L.C L.M d.session → Holdable L.C L.M (taken_over lag d).session
  taken_holdable lag d h =
      let o : (d.session.next_out ≤ cond (ltb 0 lag) (min (d.session.next_out + lag) top) d.session.next_out) × (cond (ltb 0 lag) (min (d.session.next_out + lag) top) d.session.next_out ≤ top) =
      cond_cases (λ (x : ℕ). (d.session.next_out ≤ x) × (x ≤ top)) (ltb 0 lag) (λ _. (omega (arith, h.out_high), omega arith)) (λ _. (le_refl d.session.next_out, h.out_high)) in
      record {
        stamp_ok = h.stamp_ok;
        out_low = le_trans h.out_low o.0;
        out_high = o.1;
        inc_high = h.inc_high;
        flight_high = h.flight_high;
        marks_ok = with_B d.session.marks h.marks_ok;
        msgs_rise = rising_up 1 d.session.next_out _ d.session.messages o.0 h.msgs_rise;
        msgs_bytes = h.msgs_bytes;
        msgs_count = h.msgs_count;
      }

  rules_promoted : (s : Standby) → StateRules L Also s → StateRules L Also (promotion L s)
  rules_promoted s r =
      record {
        epoch_u64 = r.epoch_u64;
        connections_u64 = r.connections_u64;
        places_few = le_trans (le_of_eq (length_places (taken_over L.lag) s.places)) r.places_few;
        sessions_ok = each_places Held (taken_over L.lag) s.places (λ x h. taken_holdable L.lag x.stored h) r.sessions_ok;
        handles_ok = used_freed (BoundValid L _) s.handles;
        handles_also = used_freed Also s.handles;
        row_apart = freed_apart s.handles;
        pending_few = omega arith;
      }

-- ---- every call

-- a change that was read from bytes can be stored
change_storable : (c : Change) → RangedChange c → fine_change latest c ≡ true → ByteChange c → Storable c
change_storable (set_incoming n) r e b = omega arith
change_storable (set_incoming_in_flight n f) r e b = (omega (arith, r.0), omega (arith, r.1))
change_storable (set_in_flight f) r e b = omega arith
change_storable (record_msg q w) r e b = b
change_storable (record_bare q) r e b = tt
change_storable reset r e b = tt
change_storable (set_created_at x) r e b = true→T (is_stamp x) (takes_keeps latest x (T→true (takes_stamp latest x) (and_r (utf8 x) (takes_stamp latest x) (true→T (utf8 x && takes_stamp latest x) e))))
change_storable (set_marks m) r e b = and_r (utf8 m) (is_marks m) (true→T (utf8 m && is_marks m) e)

changes_storable : (cs : List Change) → Each RangedChange cs → all_fine latest cs ≡ true → Each ByteChange cs → Each Storable cs
changes_storable [] r e b = tt
changes_storable (c ∷ cs) r e b =
    let t = true→T (fine_change latest c && all_fine latest cs) e in (
      change_storable c r.0 (T→true _ (and_l (fine_change latest c) (all_fine latest cs) t)) b.0,
      changes_storable cs r.1 (T→true _ (and_r (fine_change latest c) (all_fine latest cs) t)) b.1,
    )

frame_storable : (f : Frame) → Ranged f → fine latest f ≡ true → ByteFrame f → Each Storable (changes_of f)
unfolding fine
frame_storable (hello v e node kinds) r t b = tt
frame_storable (welcome e i) r t b = tt
frame_storable (bind h e lag k) r t b = tt
frame_storable (batch h e n p cs apps) r t b = changes_storable cs r.4 t b.0
frame_storable (ack h n) r t b = tt
frame_storable (nack h x) r t b = tt
frame_storable (bound h m) r t b = tt
frame_storable (checked h e i) r t b = tt

pub passed : (version : ℕ) (w : List ℕ) → T (is_bytes w) → Passed (given version w)
unfolding given
passed version w t = go (decode version w) refl
  where
    go : (d : Decoded) → decode version w ≡ d → Passed (judged (length w) d)
    go more p = tt
    go (faulty x) p = tt
    go (got f used) p =
        let a = decode_sound latest w t (decode_wider version w p) in
        cond_cases Passed (eqb used (length w)) (λ _. record { writable = a.writable; storable = frame_storable f a.writable.ranged a.writable.texts a.blobs }) (λ _. tt)

module _ (L : Settings) (Also : Bound → Type 0) (closed : Closed Also) where
  pub rules_step : (s : Standby) (c : Call) → OkCall c → StateRules L Also s → StateRules L Also (step L s c).state
  unfolding step
  rules_step s (on_frame_held w) o r = keeps_given L Also closed s (given s.counters.version w) (passed s.counters.version w o) r
  rules_step s (on_frame w) o r =
      rules_pending L Also closed (is_reply (on_given L s (given s.counters.version w)).answer) (on_given L s (given s.counters.version w)).state (keeps_given L Also closed s (given s.counters.version w) (passed s.counters.version w o) r)
  rules_step s (flush n) o r =
      cond_cases (Keeps L Also closed) (not (eqb n s.counters.connections) || s.counters.promoted) (λ _. r) (λ _. rules_pending L Also closed true s r)
  rules_step s (disconnected_from n) o r = cond_cases (StateRules L Also) (eqb n s.counters.connections) (λ _. rules_unbound L Also closed s r) (λ _. r)
  rules_step s promote o r = cond_cases (Keeps L Also closed) s.counters.checked (λ _. rules_promoted L Also closed s r) (λ _. r)
  rules_step s promote_unchecked o r = rules_promoted L Also closed s r

  pub rules_run : (s : Standby) (cs : List Call) → Each OkCall cs → StateRules L Also s → StateRules L Also (run L s cs)
  rules_run s [] o r = r
  rules_run s (c ∷ cs) o r = rules_run (step L s c).state cs o.1 (rules_step s c o.0 r)

-- ---- any content of the areas

closed_valid : Closed (λ _. Unit {0})
closed_valid = record { binds = λ _. tt; clears = λ _ _. tt; counts = λ _ _ _. tt; raises = λ _ _ _ _ _. tt; takes = λ _ _ _ _ _ _. tt }

pub valid_pending : (L : Settings) (w : Bool) (s : Standby) → Valid L s → Valid L (run_pending w s)
valid_pending L w s r = rules_pending L (λ _. Unit {0}) closed_valid w s r

pub valid_step : (L : Settings) (s : Standby) (c : Call) → OkCall c → Valid L s → Valid L (step L s c).state
valid_step L s c o r = rules_step L (λ _. Unit {0}) closed_valid s c o r

pub valid_run : (L : Settings) (s : Standby) (cs : List Call) → Each OkCall cs → Valid L s → Valid L (run L s cs)
valid_run L s cs o r = rules_run L (λ _. Unit {0}) closed_valid s cs o r

-- ---- what a new standby reaches

starts_all : (H cs : List Change) → (is_empty H || starts_with_reset H) ≡ true → T (not (is_empty H && not (starts_with_reset cs))) → starts_with_reset (H ++ cs) ≡ true
starts_all [] cs p t = go (starts_with_reset cs) t
  where
    go : (b : Bool) → T (not (not b)) → b ≡ true
    go true u = refl
    go false u = absurd u
starts_all (c ∷ H) cs p t = starts_append (c ∷ H) cs p

not_empty : (l : List Change) → starts_with_reset l ≡ true → l ≡ [] → ⊥
not_empty l p q = true≢false (sym p ∙ ap starts_with_reset q)

or_true : (a b : Bool) → b ≡ true → (a || b) ≡ true
or_true true b p = refl
or_true false b p = p

-- the byte sum that counts is the byte sum
sum_counts : (b : Bound) → BoundUsual b → held_sum b ≡ b.bytes
sum_counts b o = go b.held refl
  where
    go : (l : List Change) → b.held ≡ l → held_sum b ≡ b.bytes
    go [] p = ap (λ (x : List Change). cond (is_empty x) 0 b.bytes) p ∙ sym (o.none_sum p)
    go (c ∷ l) p = ap (λ (x : List Change). cond (is_empty x) 0 b.bytes) p

usual_takes : (b : Bound) (m : ℕ) (cs : List Change) → T (not (is_empty b.held && not (starts_with_reset cs))) → raised b cs ≤ max_whole → BoundUsual b → BoundUsual (holding b m cs)
usual_takes b m cs begins few o =
    let st = starts_all b.held cs o.held_begins begins in
    record {
      none_sum = λ p. absurd (not_empty (b.held ++ cs) st p);
      held_begins = or_true (is_empty (b.held ++ cs)) (starts_with_reset (b.held ++ cs)) st;
      sum_low = omega (arith, message_bytes_append b.held cs, o.sum_low, sum_counts b o, few);
      held_few = omega (arith, message_bytes_append b.held cs, o.sum_low, sum_counts b o, few);
    }

usual_raises : (b : Bound) (cs : List Change) → message_bytes cs ≤ max_body → max_whole < raised b cs → BoundUsual b → BoundUsual (summed b cs)
usual_raises b cs small over o =
    record {
      none_sum = λ p. absurd (omega (arith, o.none_sum p, sum_counts b o, over, small));
      held_begins = o.held_begins;
      sum_low = omega (arith, o.sum_low, o.held_few, sum_counts b o);
      held_few = o.held_few;
    }

closed_usual : Closed BoundUsual
closed_usual =
    record {
      binds = λ p. record { none_sum = λ _. refl; held_begins = refl; sum_low = omega arith; held_few = omega arith };
      clears = λ b o. record { none_sum = λ _. refl; held_begins = refl; sum_low = omega arith; held_few = omega arith };
      counts = λ b m o. record { none_sum = o.none_sum; held_begins = o.held_begins; sum_low = o.sum_low; held_few = o.held_few };
      raises = usual_raises;
      takes = usual_takes;
    }

module _ (L : Settings) (ps : List Place) (n : ℕ) (few : length ps ≤ L.S) (held : Each (λ (x : Place). Holdable L.C L.M x.stored.session) ps) where
  -- a standby as it is made over a store
  pub usual_new : Usual L (new_standby ps n)
  usual_new =
      record {
        epoch_u64 = omega arith;
        connections_u64 = omega arith;
        places_few = few;
        sessions_ok = held;
        handles_ok = used_none (BoundValid L _) n;
        handles_also = used_none BoundUsual n;
        row_apart = none_apart n;
        pending_few = omega arith;
      }

  module _ (cs : List Call) (ok : Each OkCall cs) where
    pub usual_run : Usual L (run L (new_standby ps n) cs)
    usual_run = rules_run L BoundUsual closed_usual (new_standby ps n) cs ok usual_new

    -- In a run from a new standby every stored session is one that the store can hold,
    pub run_holdable : (p : ℕ) (x : Place) → get_elem? (run L (new_standby ps n) cs).places p ≡ some x → Holdable L.C L.M x.stored.session
    run_holdable p x q = each_at (λ (y : Place). Holdable L.C L.M y.stored.session) (run L (new_standby ps n) cs).places p x q usual_run.sessions_ok

    -- and counting a byte sum as 0 with nothing held changes nothing: what is raised is the handle's byte sum
    pub run_raised : (h : ℕ) (b : Bound) → find h (run L (new_standby ps n) cs).handles ≡ some b → (own : List Change) → raised b own ≡ min (b.bytes + message_bytes own) top
    run_raised h b q own = ap (λ (x : ℕ). min (x + message_bytes own) top) (sum_counts b (used_found BoundUsual h b (run L (new_standby ps n) cs).handles usual_run.handles_also q))
