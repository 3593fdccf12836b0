-- The outgoing numbers, change after change and segment after segment: what is still to come fits the next number if all fits the first. Assumes nothing.
use mathlib.Core.Path.{◌≡◌, sym, ap, ◌∙◌}
use mathlib.Core.Bool.{true, false}
use mathlib.Core.List.{List, [], ◌∷◌, ◌++◌}
use Prim.Native.Nat.{ℕ}
use Rattle.std.specs.Prelude as prelude
use Rattle.std.specs.Prelude.{Some, None}
use Rattle.model_frame.specs.Frame.{Change}
use Rattle.model_session.specs.Session.{fits}
use Rattle.standby_changes.specs.Held.{fits_from}
use Rattle.standby_segments.specs.Steps.{FollowsRun}

-- within a segment
pub record Following (run : List Change) (first next : ℕ) (left : List Change) : Type 0 where
  pub same : (ds : List Change) → fits first (run ++ ds) ≡ fits next (left ++ ds)

pub following : (run left : List Change) (first : ℕ) → left ≡ run → Following run first first left
following run left first is = record { same = λ ds. ap (λ (cs : List Change). fits first (cs ++ ds)) (sym is) }

module _ {run left left' : List Change} {first next : ℕ} {c : Change} (o : prelude.Option ℕ) (w : Following run first next left) (e : left ≡ c ∷ left') (follows : (cs : List Change) → fits_from o cs ≡ fits next (c ∷ cs)) where
  turn : (ds : List Change) → fits first (run ++ ds) ≡ fits_from o (left' ++ ds)
  turn ds = w.same ds ∙ ap (λ (cs : List Change). fits next (cs ++ ds)) e ∙ sym (follows (left' ++ ds))

  pub follow_next : {n : ℕ} → o ≡ Some n → Following run first n left'
  follow_next is = record { same = λ ds. turn ds ∙ ap (λ (o : prelude.Option ℕ). fits_from o (left' ++ ds)) is }

  pub follow_off : o ≡ None → FollowsRun run first None
  follow_off is ds = sym (turn ds ∙ ap (λ (o : prelude.Option ℕ). fits_from o (left' ++ ds)) is)

pub follow_end : {run left : List Change} {first next : ℕ} → Following run first next left → left ≡ [] → FollowsRun run first (Some next)
follow_end {next = next} w e ds = sym (w.same ds ∙ ap (λ (cs : List Change). fits next (cs ++ ds)) e)

-- over the segments: all that is held, and what is still to come
pub record Fits (all : List Change) (first next : ℕ) (left : List Change) : Type 0 where
  pub same : fits first all ≡ fits next left

pub fits_first : (all left : List Change) (first : ℕ) → left ≡ all → Fits all first first left
fits_first all left first is = record { same = ap (fits first) (sym is) }

module _ {all left : List Change} {first next : ℕ} (run left' : List Change) (o : prelude.Option ℕ) (w : Fits all first next left) (e : left ≡ run ++ left') (follows : FollowsRun run next o) where
  over : fits first all ≡ fits_from o left'
  over = w.same ∙ ap (fits next) e ∙ sym (follows left')

  pub fits_next : {n : ℕ} → o ≡ Some n → Fits all first n left'
  fits_next is = record { same = over ∙ ap (λ (o : prelude.Option ℕ). fits_from o left') is }

  pub fits_off : o ≡ None → false ≡ fits first all
  fits_off is = sym (over ∙ ap (λ (o : prelude.Option ℕ). fits_from o left') is)

pub fits_end : {all left : List Change} {first next : ℕ} → Fits all first next left → left ≡ [] → true ≡ fits first all
fits_end {next = next} w e = sym (w.same ∙ ap (fits next) e)
