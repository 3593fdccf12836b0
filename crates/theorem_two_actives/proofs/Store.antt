-- What a frame that changes no session leaves of the store's two areas. Assumes nothing.
use mathlib.Core.Path.{◌≡◌, refl, sym, ap, subst, ◌∙◌}
use Prim.Native.Nat.{ℕ}
use mathlib.Core.List.{List, []}
use mathlib.Core.Bool.{Bool, true, false, cond, not, ◌||◌, true≢false}
use lib.ListN.{get_or, set}
use lib.Seq.{set-set}
use Rattle.base_flags.specs.Flag.{is_set}
use Rattle.model_frame.specs.Frame.{Part, commit, whole, last_whole, Frame, hello, welcome, bind, batch, ack, nack, bound, checked}
use Rattle.store_areas.specs.StoreWord
use Rattle.store_areas.specs.declared.Shape.{Shape}
use Rattle.store_areas.specs.Areas.{Rules, places_of}
use Rattle.standby_pending.specs.Pending.{pending_of}
use Rattle.standby_pending_run.specs.Commits.{marked_words, ran_words}
use Rattle.standby_pending_run.proofs.Marking.{ran}
use Rattle.standby_commit.specs.Settling.{StoreChange, stays, batch_change, StoreAfter}
use Rattle.frame_stamp.specs.Versions.{version_of}
use Rattle.model_standby.specs.Answer.{Given, damaged, intact, given, accepted, is_reply}
use Rattle.model_standby.specs.Answer as answer
use Rattle.model_standby.specs.Store.{Place}
use Rattle.model_standby.specs.State.{Call}
use Rattle.model_standby.specs.Demand.{Hands, by_held, by_frame}
use Rattle.model_two_actives.proofs.Lower.{is_hello}
use Rattle.standby_counters.specs.declared.Replica.{Replica}
use Rattle.standby_state.specs.declared.Answer.{Answer}
use Rattle.standby_state.specs.Answers.{answer_of}
use Rattle.standby_step.specs.Steps.{due_now, changes_by, FrameLeaves, Leaves}

-- ---- pending commits that ran are gone: to run them again changes nothing

none_ran : (s : Shape) (v : List ℕ) → pending_of v ≡ [] → ran_words s v ≡ set v StoreWord.pending 0
unfolding ran_words
none_ran s v e = ap (λ (l : List (ℕ × ℕ)). set (marked_words s (get_or v StoreWord.used 0) l v) StoreWord.pending 0) e

cleared_again : (s : Shape) (w : List ℕ) → set (ran_words s w) StoreWord.pending 0 ≡ ran_words s w
unfolding ran_words
cleared_again s w = set-set (marked_words s (get_or w StoreWord.used 0) (pending_of w) w) StoreWord.pending 0 0

module _ (s : Shape) (w b : List ℕ) (rules : Rules s w b) where
  abbrev If : Bool → List ℕ
  If t = cond t (ran_words s w) w

  ran_twice : (after before : Bool) → cond after (ran_words s (If before)) (If before) ≡ If (after || before)
  ran_twice true true = none_ran s (ran_words s w) (ran s b w rules).pending ∙ cleared_again s w
  ran_twice true false = refl
  ran_twice false true = refl
  ran_twice false false = refl

  -- ---- where nothing is changed

  frame_stays : {x : StoreChange} {before after : Bool} {w' b' : List ℕ} → FrameLeaves s x before after w w' b b' → x ≡ stays → (b' ≡ b) × (w' ≡ If (after || before))
  frame_stays {before} {after} {b'} l e =
      let st = subst (λ (x : StoreChange). StoreAfter s x (If before) l.mid b b') e l.store_after in
      (st.1, l.last ∙ ap (λ (m : List ℕ). cond after (ran_words s m) m) st.0 ∙ ran_twice after before)

-- whether commits run after the frame
abbrev pub runs_after : {c : Call} {v : List ℕ} → Hands c v → answer.Answer → Bool
runs_after by_held a = false
runs_after by_frame a = is_reply a

pub store_stays : (s : Shape) (k : Replica) (p : ℕ) {c : Call} {v : List ℕ} (hands : Hands c v) (w w' b b' : List ℕ) (a : Answer) → Rules s w b → Leaves s k p c w w' b b' a
    → changes_by (places_of s w b) p (given (version_of k.version2) v) (accepted (answer_of b' a)) ≡ stays
    → (b' ≡ b) × (w' ≡ cond (runs_after hands (answer_of b' a) || due_now (is_set k.promoted) (pending_of w) (given (version_of k.version2) v)) (ran_words s w) w)
store_stays s k p by_held w w' b b' a rules l e = frame_stays s w b rules l e
store_stays s k p by_frame w w' b b' a rules l e = frame_stays s w b rules l e

-- ---- which frames change nothing: a Hello, and whatever isn't accepted

part_none : (h p : ℕ) (part : Part) (taken : Bool) → taken ≡ false → batch_change h p part taken ≡ stays
part_none h p commit taken e = ap (batch_change h p commit) e
part_none h p whole taken e = refl
part_none h p last_whole taken e = ap (batch_change h p last_whole) e

not_so : (b : Bool) → not b ≡ true → b ≡ false
not_so true e = absurd (true≢false (sym e))
not_so false e = refl

pub changes_none : (ps : List Place) (p : ℕ) (f : Frame) (taken : Bool) → (is_hello f || not taken) ≡ true → changes_by ps p (intact f) taken ≡ stays
changes_none ps p (hello v e node kinds) taken q = refl
changes_none ps p (welcome e i) taken q = refl
changes_none ps p (bind h e lag k) taken q = ap (λ (t : Bool). changes_by ps p (intact (bind h e lag k)) t) (not_so taken q)
changes_none ps p (batch h e n part cs apps) taken q = part_none h p part taken (not_so taken q)
changes_none ps p (ack h n) taken q = refl
changes_none ps p (nack h r) taken q = refl
changes_none ps p (bound h m) taken q = refl
changes_none ps p (checked h e i) taken q = refl

pub given_none : (ps : List Place) (p : ℕ) (g : Given) (taken : Bool) → taken ≡ false → changes_by ps p g taken ≡ stays
given_none ps p (damaged n) taken e = refl
given_none ps p (intact f) taken e = changes_none ps p f taken (ap (λ (t : Bool). is_hello f || not t) e ∙ or_true (is_hello f))
  where
    or_true : (b : Bool) → (b || true) ≡ true
    or_true true = refl
    or_true false = refl

pub due_promoted : (pending : List (ℕ × ℕ)) (g : Given) → due_now true pending g ≡ false
due_promoted pending (damaged n) = refl
due_promoted pending (intact f) = refl
