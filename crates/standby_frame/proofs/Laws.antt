-- Each way of taking a frame is the definition's step. Assumes nothing.
use Prim.Native.Nat.{ℕ, ◌≤◌}
use mathlib.Core.Path.{◌≡◌, refl, sym, ap, subst, ◌∙◌}
use mathlib.Core.Bool.{Bool, true, false, cond, not, ◌&&◌, ◌||◌, true≢false}
use mathlib.Core.List.{List}
use mathlib.Core.Option.{Option, none}
use native.Mathlib.Nat.{le_refl, le_of_eq}
use lib.ListN.{get_or}
use lib.Dec.{eqb, ltb}
use borrow.Author.Tests.{ltb-true, leb-true}
use Rattle.base_flags.specs.Flag.{is_set}
use Rattle.base_flags.proofs.Flags.{set_so, clear_so}
use Rattle.base_laws.proofs.Lists.{both}
use Rattle.model_frame.specs.Frame.{Change, AppRecord, commit, whole, last_whole, hello, welcome, bind, batch, ack, nack, bound, checked}
use Rattle.model_frame.specs.Frame as the_frame
use Rattle.std.specs.Prelude as prelude
use Rattle.standby_segments.specs.Segments.{Holds}
use Rattle.standby_handles.specs.Rows.{area_at}
use Rattle.standby_row.specs.declared.Bound.{Bound as BoundRecord}
use Rattle.standby_row.specs.declared.lookup.Lookup.{Lookup}
use Rattle.standby_row.specs.Row.{own_place, own_record}
use Rattle.store_areas.specs.Areas.{allowed, Rules, places_of}
use Rattle.store_areas.proofs.Ruling.{rules_of}
use Rattle.standby_pending.specs.Pending.{pending_of}
use Rattle.standby_pending_run.specs.Commits.{ran_words, RanIf}
use Rattle.standby_commit.specs.Settling.{StoreChange, stays, batch_change, StoreAfter}
use Rattle.model_text.specs.Version.{latest}
use Rattle.model_standby.specs.Answer.{Given, damaged, intact, given, handle_in, reply, refused, done, accepted, is_reply}
use Rattle.frame_stamp.specs.Versions.{version_of}
use Rattle.model_standby.proofs.Factoring.{given_latest}
use Rattle.model_standby.specs.Store.{Place}
use Rattle.model_standby.specs.State.{Bound, Call, on_frame_held, on_frame}
use Rattle.model_standby.specs.State as state
use Rattle.model_standby.specs.Standby.{due}
use Rattle.model_standby.specs.Hold.{HoldWrite, writes, writes_frame}
use Rattle.model_standby.specs.Core.{leave, Core, CoreResult, core_refuse, core_run, core_intact, core_given, core_flushed, core_step}
use Rattle.standby_part.specs.State.{core_at}
use Rattle.standby_counters.specs.declared.Replica.{Replica}
use Rattle.standby_state.specs.declared.Settings.{Settings}
use Rattle.standby_state.specs.declared.Answer.{Answer}
use Rattle.standby_state.specs.declared.Outcome.{Outcome}
use Rattle.standby_state.specs.Answers.{answer_of, frame_by, is_refused}
use Rattle.standby_state.specs.Exact.{Exact}
use Rattle.standby_state.specs.Outcomes.{counters_of, settings_of, leaving, action_of, outcome_of, Lands}
use Rattle.standby_state.proofs.Exact.{exact_refused}
use Rattle.standby_batch_due.specs.DueBatch.{RecordRulesIn, BatchIn}
use Rattle.standby_batch_due.proofs.Laws.{puts_lands}
use Rattle.standby_control.specs.Others.{Fit, OtherIn}
use Rattle.standby_step.specs.Steps.{room_in, lengths_in, is_found, found_in, rooms_in, seen_allowed, due_now, changes_by, keeps_by, FrameLeaves, holds_after, closes_given, has_handle, StepIs}
use Rattle.standby_frame.specs.Taking.{is_answered, Own, IntactIs, Takes}
use Rattle.standby_frame.proofs.Frames.{due_other, writes_other}

-- ---- a frame that was read

pub batch_intact : (s : Settings) (c : Replica) (seen : Lookup) (row : List BoundRecord) (h e n : ℕ) (part : the_frame.Part) (cs : List Change) (apps : List AppRecord) (w w' b b' : List ℕ) (l l' : Holds) (r : Outcome)
    → BatchIn s c seen h e n part cs apps w w' b b' l l' r → IntactIs s c seen row (batch h e n part cs apps) w w' b b' l l' r
batch_intact s c seen row h e n part cs apps w w' b b' l l' r g = record {
  is = λ own. g.is (λ f. own f refl);
  lands = puts_lands seen row (get_or w' 0 0) (room_in seen l.bytes) (area_at (lengths_in seen l) (own_place seen) l') r.action g.puts;
  rules = g.rules;
  more = le_of_eq (sym g.used);
  leaves = g.leaves;
  holds = λ own. g.holds (λ f. own f refl);
  exact = g.exact;
}

pub other_intact : (s : Settings) (c : Replica) (seen : Lookup) (row : List BoundRecord) (f : the_frame.Frame) → Fit f → (w w' b b' : List ℕ) (l : Holds) {l' : Holds} (r : Outcome) → OtherIn s c seen row f w w' b b' r → l' ≡ l → IntactIs s c seen row f w w' b b' l l' r
other_intact s c seen row f fit w w' b b' l r g same = subst (λ (x : Holds). IntactIs s c seen row f w w' b b' l x r) (sym same) (record {
  is = λ own.
      g.is latest (lengths_in seen l) l (found_in seen l)
      ∙ ap (λ (t : Bool). core_intact (settings_of s (room_in seen l.bytes)) (core_run t (core_at (counters_of c) s.shape w b)) (found_in seen l) (rooms_in seen row (handle_in (intact f))) f) (due_other (pending_of w) f fit);
  lands = g.lands (room_in seen l.bytes) (area_at (lengths_in seen l) (own_place seen) l);
  rules = g.rules;
  more = g.more;
  leaves = subst (λ (t : Bool). FrameLeaves s.shape (changes_by (places_of s.shape w b) (own_record seen).place (intact f) (accepted (answer_of b' r.answer))) t false w w' b b') (due_other (pending_of w) f fit) g.leaves;
  holds = λ own. sym (ap (λ (o : Option HoldWrite). holds_after (lengths_in seen l) (own_place seen) (closes_given (intact f)) o l) (writes_other (settings_of s (room_in seen l.bytes)) (counters_of c) (found_in seen l) f fit));
  exact = g.exact;
})

-- ---- taking

off_batch : (h i : ℕ) (part : the_frame.Part) → batch_change h i part false ≡ stays
off_batch h i commit = refl
off_batch h i whole = refl
off_batch h i last_whole = refl

-- what isn't accepted changes nothing
off_stays : (ps : List Place) (p : ℕ) (g : Given) → changes_by ps p g false ≡ stays
off_stays ps p (damaged n) = refl
off_stays ps p (intact (hello v e node kinds)) = refl
off_stays ps p (intact (welcome e i)) = refl
off_stays ps p (intact (bind h e lag k)) = refl
off_stays ps p (intact (batch h e n part cs apps)) = off_batch h p part
off_stays ps p (intact (ack h n)) = refl
off_stays ps p (intact (nack h r)) = refl
off_stays ps p (intact (bound h m)) = refl
off_stays ps p (intact (checked h e i)) = refl

module _ (s : Settings) (c : Replica) (seen : Lookup) (row : List BoundRecord) (frame w b : List ℕ) (h : Holds) (rules : Rules s.shape w b) where
  abbrev L : state.Settings
  L = settings_of s (room_in seen h.bytes)

  abbrev K : Core
  K = core_at (counters_of c) s.shape w b

  abbrev F : Option Bound
  F = found_in seen h

  -- the connection's version
  abbrev V : ℕ
  V = version_of c.version2

  abbrev room : ℕ → Bool
  room = rooms_in seen row (handle_in (given latest frame))

  held_is : core_step L K F room (on_frame_held frame) ≡ core_given L K F room (given V frame)
  unfolding core_step
  held_is = refl

  refused_is : (n : ℕ) (x : List ℕ) → eqb n 0 ≡ false → answer_of x (is_refused n) ≡ refused n
  refused_is n x e = ap (λ (t : Bool). cond t done (refused n)) e

  -- refused, and all is as it was
  all_left : (g : Given) → given V frame ≡ g → (n : ℕ) → eqb n 0 ≡ false → core_given L K F room g ≡ core_refuse K leave n → due_now (is_set c.promoted) (pending_of w) g ≡ false → writes L (counters_of c) F g ≡ none
      → {r : Outcome} → r ≡ leaving c (is_refused n) → Takes s c seen row frame w w b b h h r
  all_left g is n off core due-none none_written e₁ =
      subst (Takes s c seen row frame w w b b h h) (sym e₁)
      (record {
        rules = rules;
        steps = λ own. record {
          is = (λ j. record { core = K; action = leave; answer = refused_is n b off j }) ∙ sym (held_is ∙ ap (core_given L K F room) is ∙ core);
          lands = tt;
          kept = λ _. refl;
          rules = rules;
          more = le_refl (get_or w 0 0);
          leaves = record {
            mid = w;
            store_after =
                subst (λ (x : StoreChange). StoreAfter s.shape x (cond (due_now (is_set c.promoted) (pending_of w) (given V frame)) (ran_words s.shape w) w) w b b)
                (sym (ap (changes_by (places_of s.shape w b) (own_record seen).place (given V frame)) (ap accepted (refused_is n b off)) ∙ off_stays (places_of s.shape w b) (own_record seen).place (given V frame)))
                (sym (ap (λ (t : Bool). cond t (ran_words s.shape w) w) (ap (due_now (is_set c.promoted) (pending_of w)) is ∙ due-none)), refl);
            last = refl;
          };
          holds = sym (ap (λ (o : Option HoldWrite). holds_after (lengths_in seen h) (own_place seen) (closes_given (given V frame)) o h) (ap (writes L (counters_of c) F) is ∙ none_written));
        };
        exact = exact_refused b n;
      })

  pub damaged_left : (n : ℕ) → given V frame ≡ damaged n → eqb n 0 ≡ false → {r : Outcome} → r ≡ leaving c (is_refused n) → Takes s c seen row frame w w b b h h r
  unfolding core_given writes
  damaged_left n is off e₁ = all_left (damaged n) is n off refl refl refl e₁

  pub promoted_left : (f : the_frame.Frame) → given V frame ≡ intact f → (c.promoted ≡ 0 → ⊥) → {r : Outcome} → r ≡ leaving c (is_refused 10) → Takes s c seen row frame w w b b h h r
  unfolding core_given writes
  promoted_left f is on e₁ =
      all_left (intact f) is 10 refl
      (ap (λ (t : Bool). cond t (core_refuse K leave 10) (core_intact L (core_run (due (pending_of w) f) K) F room f)) (set_so c.promoted on))
      (ap (λ (t : Bool). not t && due (pending_of w) f) (set_so c.promoted on))
      (ap (λ (t : Bool). cond t none (writes_frame L (counters_of c) F f)) (set_so c.promoted on))
      e₁

  pub intact_taken : (f : the_frame.Frame) → given V frame ≡ intact f → c.promoted ≡ 0 → {w' b' : List ℕ} {h' : Holds} {r : Outcome} → IntactIs s c seen row f w w' b b' h h' r → Takes s c seen row frame w w' b b' h h' r
  unfolding core_given writes
  intact_taken f is off {w'} {b'} {h'} {r} g = record {
    rules = g.rules;
    steps = λ own.
        let wide : given latest frame ≡ intact f = given_latest V frame is in
        let mine : Own seen f = λ found asks. own found (ap has_handle wide ∙ asks) ∙ ap handle_in wide in
        record {
          is =
              g.is mine
              ∙ ap (λ (x : Given). core_intact L (core_run (due (pending_of w) f) K) F (rooms_in seen row (handle_in x)) f) (sym wide)
              ∙ sym (held_is ∙ ap (core_given L K F room) is ∙ ap (λ (t : Bool). cond t (core_refuse K leave 10) (core_intact L (core_run (due (pending_of w) f) K) F room f)) (clear_so c.promoted off));
          lands = g.lands;
          kept = λ e. absurd (true≢false (sym e ∙ ap (keeps_by (is_set c.promoted)) is ∙ clear_so c.promoted off));
          rules = g.rules;
          more = g.more;
          leaves =
              subst (λ (x : Given). FrameLeaves s.shape (changes_by (places_of s.shape w b) (own_record seen).place x (accepted (answer_of b' r.answer))) (due_now (is_set c.promoted) (pending_of w) x) false w w' b b') (sym is)
              (subst (λ (t : Bool). FrameLeaves s.shape (changes_by (places_of s.shape w b) (own_record seen).place (intact f) (accepted (answer_of b' r.answer))) (not t && due (pending_of w) f) false w w' b b') (sym (clear_so c.promoted off)) g.leaves);
          holds =
              g.holds mine
              ∙ ap (λ (t : Bool). holds_after (lengths_in seen h) (own_place seen) t (writes_frame L (counters_of c) F f) h) (sym (ap closes_given is))
              ∙ ap (λ (o : Option HoldWrite). holds_after (lengths_in seen h) (own_place seen) (closes_given (given V frame)) o h)
              (sym (ap (writes L (counters_of c) F) is ∙ ap (λ (t : Bool). cond t none (writes_frame L (counters_of c) F f)) (clear_so c.promoted off)));
        };
    exact = g.exact;
  }

-- ---- the call: 25, or the frame

module _ (s : Settings) (c : Replica) (seen : Lookup) (row : List BoundRecord) (w b : List ℕ) (h : Holds) where
  pub rules_seen : seen_allowed s.shape seen w b h.bytes ≡ true → Rules s.shape w b
  rules_seen e = rules_of s.shape w b (both (allowed s.shape w b) _ e).0

  pub holds_seen : seen_allowed s.shape seen w b h.bytes ≡ true → is_found seen ≡ true → RecordRulesIn seen w h
  holds_seen e f =
      let p = (both (not (prelude.is_some seen.broken)) _ (both seen.apart _ (both (allowed s.shape w b) _ e).1).1).1 in
      let q = both (ltb (own_record seen).place (get_or w 0 0)) _ (go (is_found seen) _ f p) in
      record { place_used = ltb-true (own_record seen).place (get_or w 0 0) q.0; held_within = leb-true (own_record seen).held_len (room_in seen h.bytes) q.1 }
    where
      go : (t x : Bool) → t ≡ true → (not t || x) ≡ true → x ≡ true
      go true x e f = f
      go false x e f = absurd (true≢false (sym e))

  pub refuses_25 : (call : Call) {t : Bool} → t ≡ seen_allowed s.shape seen w b h.bytes → t ≡ false → {r : Outcome} → r ≡ leaving c (is_refused 25) → StepIs s c seen row call w w b b h h r
  refuses_25 call e off e₁ = record {
    refuses = λ _. (e₁, (refl, (refl, refl)));
    steps = λ y _. absurd (true≢false (sym y ∙ sym e ∙ off));
    exact = subst (λ (x : Outcome). Exact b x.answer) (sym e₁) (exact_refused b 25);
  }

  module _ (frame : List ℕ) {w1 b' : List ℕ} {h' : Holds} {r : Outcome} {t : Bool} (e : t ≡ seen_allowed s.shape seen w b h.bytes) (on : t ≡ true) (g : Takes s c seen row frame w w1 b b' h h' r) where
    pub held_steps : StepIs s c seen row (on_frame_held frame) w w1 b b' h h' r
    held_steps = record { refuses = λ y. absurd (true≢false (sym (sym e ∙ on) ∙ y)); steps = λ _ own. g.steps own; exact = g.exact }

    answered_is : (x : List ℕ) (a : Answer) → is_reply (answer_of x a) ≡ is_answered a
    answered_is x a = go (eqb a.refusal 0) (eqb a.kind 0)
      where
        go : (t u : Bool) → is_reply (cond t (cond u done (reply (frame_by x a))) (refused a.refusal)) ≡ (t && not u)
        go true true = refl
        go true false = refl
        go false u = refl

    module _ {w' : List ℕ} {answered : Bool} (is : answered ≡ is_answered r.answer) (ran : RanIf answered s.shape b' w1 w') where
      replies : answered ≡ is_reply (answer_of b' r.answer)
      replies = is ∙ sym (answered_is b' r.answer)

      core_ran : core_at (counters_of r.replica) s.shape w' b' ≡ core_run (is_reply (answer_of b' r.answer)) (core_at (counters_of r.replica) s.shape w1 b')
      core_ran = (λ j. record { counters = counters_of r.replica; places = ran.places j; pending = ran.pending j }) ∙ ap (λ (t : Bool). core_run t (core_at (counters_of r.replica) s.shape w1 b')) replies

      flushed_is : (m : CoreResult) → outcome_of latest (lengths_in seen h) s.shape w1 b' h' r ≡ m
          → outcome_of latest (lengths_in seen h) s.shape w' b' h' r ≡ core_flushed (settings_of s (room_in seen h.bytes)) m
      flushed_is m p =
          (λ j. record { core = core_ran j; action = action_of latest (lengths_in seen h) h' r; answer = answer_of b' r.answer }) ∙ ap (core_flushed (settings_of s (room_in seen h.bytes))) p

      pub now_steps : StepIs s c seen row (on_frame frame) w w' b b' h h' r
      unfolding core_step
      now_steps = record {
        refuses = λ y. absurd (true≢false (sym (sym e ∙ on) ∙ y));
        steps = λ _ own.
            let p = g.steps own in
            record {
              is = flushed_is _ p.is;
              lands = subst (λ (k : ℕ). Lands seen row k (room_in seen h.bytes) (area_at (lengths_in seen h) (own_place seen) h') r.action) (sym ran.used) p.lands;
              kept = p.kept;
              rules = ran.rules;
              more = subst (λ (k : ℕ). get_or w 0 0 ≤ k) (sym ran.used) p.more;
              leaves = record {
                mid = p.leaves.mid;
                store_after = p.leaves.store_after;
                last = ran.words ∙ (λ j. cond (replies j) (ran_words s.shape (p.leaves.last j)) (p.leaves.last j));
              };
              holds = p.holds;
            };
        exact = g.exact;
      }
