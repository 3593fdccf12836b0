-- TWO ACTIVES, ONE STANDBY ON THE CODE, proved: the entry points' promises are the model's steps, the model's theorem does the rest, and what the promises say of
-- row, hold areas and store gives the very words and bytes. Assumes nothing.
use mathlib.Core.Path.{◌≡◌, refl, sym, ap, subst, ◌∙◌}
use Prim.Native.Nat.{ℕ, ◌≤◌, max}
use native.Mathlib.Omega.{arith}
use mathlib.Core.List.{List}
use mathlib.Core.Option.{Option, none}
use mathlib.Core.Bool.{Bool, true, false, cond, not, ◌||◌}
use lib.Dec.{T}
use lib.ListN.{get_or}
use Rattle.base_flags.specs.Flag.{is_set}
use Rattle.base_laws.proofs.Lists.{both}
use Rattle.model_frame.specs.Frame.{Frame}
use Rattle.store_areas.specs.Areas.{allowed, Rules, places_of}
use Rattle.store_areas.proofs.Ruling.{rules_of}
use Rattle.standby_pending.specs.Pending.{pending_of}
use Rattle.standby_pending_run.specs.Commits.{ran_words}
use Rattle.standby_commit.specs.Settling.{stays}
use Rattle.standby_row.specs.Row.{free_record, find_of}
use Rattle.frame_stamp.specs.Versions.{version_of}
use Rattle.model_standby.specs.Answer.{given, lower, accepted, is_reply}
use Rattle.model_standby.specs.Answer as answer
use Rattle.model_standby.specs.Row.{find}
use Rattle.model_standby.specs.Store.{session_at}
use Rattle.model_standby.specs.State.{Counters, Standby, Call}
use Rattle.model_standby.specs.State as state
use Rattle.model_standby.specs.Standby.{step, run}
use Rattle.model_standby.specs.Hold.{HoldWrite, writes}
use Rattle.model_standby.specs.Demand.{Hands, by_held, by_frame}
use Rattle.model_standby.proofs.Sanity.{epoch_never_falls}
use Rattle.model_two_actives.specs.TwoActives.{Takes}
use Rattle.model_two_actives.proofs.TwoActives as model
use Rattle.model_two_actives.proofs.Lower.{is_hello, lower_answer, promoted_answer, lower_writes, promoted_writes}
use Rattle.standby_state.specs.declared.Settings.{Settings}
use Rattle.standby_state.specs.declared.Answer.{Answer}
use Rattle.standby_state.specs.Answers.{answer_of}
use Rattle.standby_state.specs.Outcomes.{counters_of, settings_of}
use Rattle.standby_step.specs.Steps.{handle_by, keeps_by, keeps_counters, due_now, changes_by, holds_after, closes_by, writes_by}
use Rattle.standby_step.specs.Calls.{room_all, lengths_all, RowChange, keeps, row_by, RowLeaves, CalledSteps}
use Rattle.theorem_whole_copy.specs.Demand.{Lent, stands_for, settings, Allowed, Calls, Runs, no_calls, call}
use Rattle.theorem_whole_copy.proofs.Model.{one}
use Rattle.theorem_two_actives.specs.TwoActives.{SameBut, OnlyCommitsRan, TwoActives}
use Rattle.theorem_two_actives.proofs.Row.{lower_row, promoted_row}
use Rattle.theorem_two_actives.proofs.Store.{runs_after, store_stays, changes_none, given_none, due_promoted}

-- ---- the frame's bytes are what a call writes by

writes_by_lem : (L : state.Settings) (k : Counters) (found : Option state.Bound) {c : Call} {v : List ℕ} → Hands c v → writes L k found (given k.version v) ≡ none → writes_by L k found c ≡ none
writes_by_lem L k found by_held e = e
writes_by_lem L k found by_frame e = e

module _ (s : Settings) where
  -- ---- runs

  record Reached (room : ℕ) (st : Standby) (cs : List Call) (z : Lent) : Type 0 where
    ran : run (settings_of s room) st cs ≡ stands_for s z
    allowed : Allowed s z
    same : room_all z.row z.holds.bytes ≡ room

  reached : {room : ℕ} {x z : Lent} {cs : List Call} → Runs s x cs z → Allowed s x → room_all x.row x.holds.bytes ≡ room → (st : Standby) → stands_for s x ≡ st → Reached room st cs z
  reached no_calls ok r st e = record { ran = sym e; allowed = ok; same = r }
  reached {room} (call {c} p rest) ok r st e =
      let o = one s room ok r p st e in
      let q = reached rest o.allowed o.same (step (settings_of s room) st c).state o.state in
      record { ran = q.ran; allowed = q.allowed; same = q.same }

  -- ---- a call from what is allowed

  module _ (x : Lent) (ok : Allowed s x) (c : Call) (y : Lent) (a : Answer) (p : Calls s c x y a) where
    abbrev L : state.Settings
    L = settings s x

    abbrev st : Standby
    st = stands_for s x

    steps : CalledSteps s c x.counters y.counters x.row y.row x.words y.words x.bytes y.bytes x.holds y.holds a
    steps = p.steps ok

    rules : Rules s.shape x.words x.bytes
    rules = rules_of s.shape x.words x.bytes (both (allowed s.shape x.words x.bytes) _ ok).0

    after_state : stands_for s y ≡ (step L st c).state
    after_state = ap (λ (r : state.Result). r.state) steps.is

    after_answer : answer_of y.bytes a ≡ (step L st c).answer
    after_answer = ap (λ (r : state.Result). r.answer) steps.is

    -- the place of the record that the call's handle has
    abbrev at : ℕ
    at = (get_or x.row (find_of x.row (handle_by c)) free_record).place

    module _ (v : List ℕ) (hands : Hands c v) where
      abbrev Ran : Bool
      Ran = runs_after hands (answer_of y.bytes a) || due_now (is_set x.counters.promoted) (pending_of x.words) (given (version_of x.counters.version2) v)

      record Left : Type 0 where
        same : SameBut s x y
        words : y.words ≡ cond Ran (ran_words s.shape x.words) x.words

      -- nothing is done to the row, nothing written to the hold areas, no session changed
      left : counters_of y.counters ≡ counters_of x.counters
          → row_by (counters_of x.counters) c (step L st c).answer ≡ keeps
          → writes_by L (counters_of x.counters) (find (handle_by c) st.handles) c ≡ none
          → changes_by (places_of s.shape x.words x.bytes) at (given (version_of x.counters.version2) v) (accepted (answer_of y.bytes a)) ≡ stays
          → Left
      left k e n ch =
          let q = store_stays s.shape x.counters at hands x.words y.words x.bytes y.bytes a rules steps.leaves ch in
          record {
            same = record {
              counters = k;
              row = subst (λ (t : RowChange). RowLeaves t (step L st c).state.handles x.row y.row) e steps.row_leaves;
              holds = steps.holds ∙ ap (λ (t : Option HoldWrite). holds_after (lengths_all x.row x.holds) (find_of x.row (handle_by c)) (closes_by (counters_of x.counters) c) t x.holds) n;
              bytes = q.0;
            };
            words = q.1;
          }

    -- ---- a frame of a lower epoch

    lower_call : is_set x.counters.promoted ≡ false → (f : Frame) → Takes (version_of x.counters.version2) c f → T (lower x.counters.epoch.0 f) → OnlyCommitsRan s x y
    lower_call u f t l =
        let m = (model.two_actives L st u).lower_leaves c f t l in
        let v = t.bytes in
        let is = left v t.hands (ap (λ (z : Standby). z.counters) after_state ∙ m.counters)
        (lower_row L st (counters_of x.counters) c v f refl u t.hands t.reads l)
        (writes_by_lem L (counters_of x.counters) (find (handle_by c) st.handles) t.hands (lower_writes L (counters_of x.counters) (find (handle_by c) st.handles) v f u t.reads l))
        (ap (λ (g : answer.Given). changes_by (places_of s.shape x.words x.bytes) at g (accepted (answer_of y.bytes a))) t.reads
        ∙ changes_none (places_of s.shape x.words x.bytes) at f (accepted (answer_of y.bytes a))
        (ap (λ (b : answer.Answer). is_hello f || not (accepted b)) after_answer ∙ lower_answer L st c v f u t.hands t.reads l)) in
        record {
          same = is.same;
          words = (Ran v t.hands, is.words);
          sessions = λ n. ap (λ (z : Standby). session_at z.places n) after_state ∙ m.sessions n;
        }

    -- ---- after promotion

    promoted_call : is_set x.counters.promoted ≡ true → (v : List ℕ) → Hands c v → y ≡ x
    promoted_call u v h =
        let no = promoted_answer L st c v u h in
        let said : accepted (answer_of y.bytes a) ≡ false = ap accepted after_answer ∙ no.0 in
        let is = left v h (ap (λ (z : Standby). z.counters) (after_state ∙ model.promoted_call L st c v u h))
        (promoted_row L st (counters_of x.counters) c v refl u h)
        (writes_by_lem L (counters_of x.counters) (find (handle_by c) st.handles) h (promoted_writes L (counters_of x.counters) (find (handle_by c) st.handles) v u))
        (given_none (places_of s.shape x.words x.bytes) at (given (version_of x.counters.version2) v) (accepted (answer_of y.bytes a)) said) in
        let same-words : y.words ≡ x.words = is.words ∙ ap (λ (t : Bool). cond t (ran_words s.shape x.words) x.words) (not_ran v h (ap is_reply after_answer ∙ no.1)) in
        let same-counters : y.counters ≡ x.counters = steps.counters_kept (kept_by h) in
        λ j. record { counters = same-counters j; row = is.same.row j; words = same-words j; bytes = is.same.bytes j; holds = is.same.holds j }
      where
        kept_on : (g : answer.Given) → keeps_by true g ≡ true
        kept_on (answer.damaged n) = refl
        kept_on (answer.intact f) = refl

        kept_by : {d : Call} {w : List ℕ} → Hands d w → keeps_counters x.counters d ≡ true
        kept_by {w = w} by_held = ap (λ (t : Bool). keeps_by t (given (version_of x.counters.version2) w)) u ∙ kept_on (given (version_of x.counters.version2) w)
        kept_by {w = w} by_frame = ap (λ (t : Bool). keeps_by t (given (version_of x.counters.version2) w)) u ∙ kept_on (given (version_of x.counters.version2) w)

        after_none : {d : Call} {w : List ℕ} (h₁ : Hands d w) (b : answer.Answer) → is_reply b ≡ false → runs_after h₁ b ≡ false
        after_none by_held b e = refl
        after_none by_frame b e = e

        not_ran : (w : List ℕ) (h₁ : Hands c w) → is_reply (answer_of y.bytes a) ≡ false → Ran w h₁ ≡ false
        not_ran w h₁ e =
            (λ i. after_none h₁ (answer_of y.bytes a) e i || due_now (u i) (pending_of x.words) (given (version_of x.counters.version2) w)) ∙ due_promoted (pending_of x.words) (given (version_of x.counters.version2) w)

  -- ---- the theorem

  pub two_actives : (x : Lent) → Allowed s x → is_set x.counters.promoted ≡ false → TwoActives s x
  two_actives x ok u =
      let M = model.two_actives (settings s x) (stands_for s x) u in
      record {
        never_falls = λ cs z rs.
            let q = reached rs ok refl (stands_for s x) refl in
            subst (λ (t : Standby). x.counters.epoch.0 ≤ t.counters.epoch) q.ran (M.never_falls cs);
        lower_leaves = λ c f y a t l p. lower_call x ok c y a p u f t l;
        raises = λ c e f y a t d p. ap (λ (z : Standby). z.counters.epoch) (after_state x ok c y a p) ∙ M.raises c e f t d;
        deposes = λ c e f y a t d p cs z rs v d₁ g z₁ b t₁ l p₁.
            let q = reached (call p rs) ok refl (stands_for s x) refl in
            let rest = reached rs (one s (room_all x.row x.holds.bytes) ok refl p (stands_for s x) refl).allowed (one s (room_all x.row x.holds.bytes) ok refl p (stands_for s x) refl).same (stands_for s y) refl in
            let raised : y.counters.epoch.0 ≡ max x.counters.epoch.0 e = ap (λ (k : Standby). k.counters.epoch) (after_state x ok c y a p) ∙ M.raises c e f t d in
            let more : y.counters.epoch.0 ≤ z.counters.epoch.0 =
            subst (λ (k : Standby). y.counters.epoch.0 ≤ k.counters.epoch) rest.ran (epoch_never_falls (settings_of s (room_all x.row x.holds.bytes)) (stands_for s y) cs) in
            let high : e ≤ z.counters.epoch.0 = omega (arith, raised, more) in
            lower_call z q.allowed d₁ z₁ b p₁ v g t₁ (model.lower_more e z.counters.epoch.0 g high l);
        not_by_bind = λ c h e lag k y a t p. ap (λ (z : Standby). z.counters.epoch) (after_state x ok c y a p) ∙ M.not_by_bind c h e lag k t;
        promoted = λ cs z rs v d w z₁ b h p. promoted_call z (reached rs ok refl (stands_for s x) refl).allowed d z₁ b p v w h;
      }
