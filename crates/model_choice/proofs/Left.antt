-- A copy that is unchecked or of a lower epoch neither wins nor stops one: whether it is listed changes nothing. Assumes nothing.
use mathlib.Core.Path.{◌≡◌, refl, sym, ap, ◌∙◌}
use mathlib.Core.Bool.{Bool, true, false, cond, not, ◌&&◌, ◌||◌}
use mathlib.Core.List.{List, [], ◌∷◌, ◌++◌}
use Prim.Native.Nat.{ℕ, zero, suc, ◌≤◌, ◌<◌, max}
use native.Mathlib.Omega.{arith}
use lib.Dec.{eqb}
use borrow.Author.Tests.{ne_eqb}
use Rattle.model_standby.specs.Store.{Place}
use Rattle.model_choice.specs.Choice.{StandbyCopy, is_checked_copy, highest, is_candidate, is_ahead, is_ahead_of_all, fits_rule, first_that_fits, chosen}

-- the same copy, not listed
abbrev pub unlisted : StandbyCopy → StandbyCopy
unlisted c = record { is_listed = false; epoch = c.epoch; is_checked = c.is_checked; places = c.places }

module _ (c : StandbyCopy) (before after : List StandbyCopy) where
  abbrev with : List StandbyCopy → List StandbyCopy
  with cs = cs ++ (c ∷ after)

  abbrev without : List StandbyCopy → List StandbyCopy
  without cs = cs ++ (unlisted c ∷ after)

  -- the highest epoch, with and without it
  high : (cs : List StandbyCopy) → highest (with cs) ≡ cond (is_checked_copy c) (max c.epoch (highest (without cs))) (highest (without cs))
  high [] = refl
  high (d ∷ cs) = go (is_checked_copy d) (is_checked_copy c) (high cs)
    where
      go : (t u : Bool) → highest (with cs) ≡ cond u (max c.epoch (highest (without cs))) (highest (without cs))
          → cond t (max d.epoch (highest (with cs))) (highest (with cs)) ≡ cond u (max c.epoch (cond t (max d.epoch (highest (without cs))) (highest (without cs)))) (cond t (max d.epoch (highest (without cs))) (highest (without cs)))
      go true true ih = omega (arith, ih)
      go true false ih = ap (max d.epoch) ih
      go false true ih = ih
      go false false ih = ih

  same_highest : (is_checked_copy c ≡ true → c.epoch < highest (without before)) → highest (with before) ≡ highest (without before)
  same_highest lower = go (is_checked_copy c) refl (high before)
    where
      go : (t : Bool) → is_checked_copy c ≡ t → highest (with before) ≡ cond t (max c.epoch (highest (without before))) (highest (without before)) → highest (with before) ≡ highest (without before)
      go true e h = omega (arith, h, lower e)
      go false e h = h

  no_candidate : (is_checked_copy c ≡ true → c.epoch < highest (without before)) → is_candidate (highest (without before)) c ≡ false
  no_candidate lower = go (is_checked_copy c) refl
    where
      go : (t : Bool) → is_checked_copy c ≡ t → (t && eqb c.epoch (highest (without before))) ≡ false
      go true e = ne_eqb c.epoch (highest (without before)) (λ s. omega (arith, s, lower e))
      go false e = refl

  module _ (top : ℕ) (no : is_candidate top c ≡ false) where
    same_ahead : (mine : List Place) (cs : List StandbyCopy) → is_ahead_of_all top mine (with cs) ≡ is_ahead_of_all top mine (without cs)
    same_ahead mine [] = rw no refl
    same_ahead mine (d ∷ cs) = ap (λ (t : Bool). (not (is_candidate top d) || is_ahead mine d.places) && t) (same_ahead mine cs)

  pub changes_nothing : (is_checked_copy c ≡ true → c.epoch < highest (before ++ (unlisted c ∷ after))) → chosen (before ++ (c ∷ after)) ≡ chosen (before ++ (unlisted c ∷ after))
  unfolding chosen
  changes_nothing lower = go before
    where
      top : highest (with before) ≡ highest (without before)
      top = same_highest lower

      no : is_candidate (highest (without before)) c ≡ false
      no = no_candidate lower

      same : (d : StandbyCopy) → fits_rule (with before) d ≡ fits_rule (without before) d
      same d = ap (λ (t : ℕ). is_candidate t d && is_ahead_of_all t d.places (with before)) top ∙ ap (λ (t : Bool). is_candidate (highest (without before)) d && t) (same_ahead (highest (without before)) no d.places before)

      unfit : fits_rule (with before) c ≡ false
      unfit = same c ∙ ap (λ (t : Bool). t && is_ahead_of_all (highest (without before)) c.places (without before)) no

      go : (cs : List StandbyCopy) → first_that_fits (with before) (with cs) ≡ first_that_fits (without before) (without cs)
      go [] = ap (λ (t : Bool). cond t 0 (suc (first_that_fits (with before) after))) unfit ∙ ap suc (rest after)
        where
          rest : (ds : List StandbyCopy) → first_that_fits (with before) ds ≡ first_that_fits (without before) ds
          rest [] = refl
          rest (d ∷ ds) = (λ i. cond (same d i) 0 (suc (rest ds i)))
      go (d ∷ cs) = (λ i. cond (same d i) 0 (suc (go cs i)))
