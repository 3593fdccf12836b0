-- The first message that is read from number 1 on is the first that is stored. Assumes nothing.
use Rattle.std.proofs.Common.{◌≡◌, ℕ, suc, ◌+◌, ◌^◌, ◌≤◌, Bool, true, cond, leb, List, [], ◌∷◌, ◌++◌, take, drop, length, refl, sym, ap, ◌∙◌, arith, le-leb}
use Rattle.model_session.specs.Session.{Msg, Rising}
use Rattle.model_session.specs.Summary.{numbered_from}
use Rattle.model_lowest.specs.Lowest.{lowest_of}
use Rattle.store_log.specs.Log.{rest_of}
use Rattle.store_log.proofs.Lawful.{Small}
use Rattle.store_place.specs.Place.{rest_in}
use Rattle.store_areas.specs.declared.Shape.{Shape}
use Rattle.store_areas.specs.Areas.{in_use, place_at}
use Rattle.store_areas.proofs.Holding.{holdable_at}
use Rattle.store_sessions.specs.Answers.{gives, rest_at, FromAt, NextMessageAt}
use Rattle.store_lowest.specs.Lowest.{lowest_in}

numbered_all : (low next : ℕ) (ms : List Msg) → 1 ≤ low → Rising low next ms → numbered_from 1 ms ≡ ms
numbered_all low next [] h r = refl
numbered_all low next (m ∷ ms) h r = rw (le-leb 1 m.num (omega (arith, h, r.0)), numbered_all (suc m.num) next ms (omega arith) r.3) refl

module _ (s : Shape) (w b : List ℕ) (i : ℕ) (used : in_use s w b i ≡ true) (words : Small (2 ^ 64) w) (bytes : Small 256 b) where
  all : numbered_from 1 (place_at s w b i).stored.session.messages ≡ (place_at s w b i).stored.session.messages
  all = numbered_all 1 (place_at s w b i).stored.session.next_out _ (omega arith) (holdable_at s w b i words bytes).msgs_rise

  is_lowest : {left dist : ℕ} → FromAt s w b i 1 left dist → lowest_in s w b i ≡ gives (lowest_of (rest_at s w b i left))
  is_lowest f = rw used (ap (λ (ms : List Msg). gives (lowest_of ms)) (sym (f.is ∙ all)))

  pub none_stored : {left dist : ℕ} → FromAt s w b i 1 left dist → left ≡ 0 → gives 0 ≡ lowest_in s w b i
  unfolding rest_at rest_in rest_of
  none_stored f z = sym (is_lowest f ∙ ap (λ (n : ℕ). gives (lowest_of (rest_at s w b i n))) z)

  pub first_stored : {left dist number at first again rest left' dist' : ℕ} → FromAt s w b i 1 left dist → NextMessageAt s w b i left dist number at first again rest left' dist' → gives number ≡ lowest_in s w b i
  first_stored f n = sym (is_lowest f ∙ ap (λ (ms : List Msg). gives (lowest_of ms)) n.is)
