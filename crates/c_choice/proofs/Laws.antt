-- The answer as a code. Assumes nothing.
use mathlib.Core.Path.{◌≡◌, refl, sym, ap, ◌∙◌}
use mathlib.Core.Bool.{Bool, true, false, cond, ◌&&◌}
use mathlib.Core.List.{List, [], ◌∷◌}
use Prim.Native.Nat.{ℕ, ◌≤◌, ◌<◌}
use lib.ListN.{length}
use lib.Dec.{eqb}
use borrow.Author.Tests.{le-leb, lt-leb}
use Rattle.model_choice.specs.Choice.{chosen}
use Rattle.standby_choice.specs.declared.lent.LentCopy.{LentCopy}
use Rattle.base_refusals.specs.declared.Refusal.{Refusal}
use Rattle.std.specs.Prelude.{None, Some, ok_or, Result, Err}
use Rattle.standby_choice.specs.Choice.{copy_of, is_sound, copies_of, are_sound, choice_of}
use Rattle.c_choice.specs.Choosing.{LentIs, copies_in, are_sound_in, choice_code, returned}
use Rattle.c_code.specs.Codes as codes

-- ---- what is returned

module _ (ws w0 b0 w1 b1 w2 b2 w3 b3 w4 b4 : List ℕ) where
  abbrev sound : Bool
  sound = are_sound_in ws w0 b0 w1 b1 w2 b2 w3 b3 w4 b4

  abbrev taker : ℕ
  taker = chosen (copies_in ws w0 b0 w1 b1 w2 b2 w3 b3 w4 b4)

  pub too_short : (n : ℕ) → length ws < 30 → n ≡ codes.code_of (Err Refusal.RulesBroken) → n ≡ returned ws w0 b0 w1 b1 w2 b2 w3 b3 w4 b4
  too_short n h e = e ∙ sym (ap (λ (t : Bool). cond (t && sound) (cond (eqb taker 5) (choice_code 39 0) (choice_code 0 taker)) (choice_code 25 0)) (lt-leb 30 (length ws) h))

  answer : (s t : Bool) (n : ℕ) → codes.code_of (cond s (ok_or (cond t None (Some n)) Refusal.NoneFits) (Err Refusal.RulesBroken)) ≡ cond s (cond t (choice_code 39 0) (choice_code 0 n)) (choice_code 25 0)
  answer true true n = refl
  answer true false n = refl
  answer false t n = refl

  module _ {c0 c1 c2 c3 c4 : LentCopy} (e0 : LentIs ws 0 w0 b0 c0) (e1 : LentIs ws 6 w1 b1 c1) (e2 : LentIs ws 12 w2 b2 c2) (e3 : LentIs ws 18 w3 b3 c3) (e4 : LentIs ws 24 w4 b4 c4) where
    abbrev lent : List LentCopy
    lent = c0 ∷ c1 ∷ c2 ∷ c3 ∷ c4 ∷ []

    copies : copies_of lent ≡ copies_in ws w0 b0 w1 b1 w2 b2 w3 b3 w4 b4
    copies = λ j.
        copy_of (e0.copy j) (e0.words j) (e0.bytes j) ∷ copy_of (e1.copy j) (e1.words j) (e1.bytes j) ∷ copy_of (e2.copy j) (e2.words j) (e2.bytes j)
        ∷ copy_of (e3.copy j) (e3.words j) (e3.bytes j) ∷ copy_of (e4.copy j) (e4.words j) (e4.bytes j) ∷ []

    all_sound : are_sound lent ≡ sound
    all_sound = λ j.
        is_sound (e0.copy j) (e0.words j) (e0.bytes j) && (is_sound (e1.copy j) (e1.words j) (e1.bytes j) && (is_sound (e2.copy j) (e2.words j) (e2.bytes j)
        && (is_sound (e3.copy j) (e3.words j) (e3.bytes j) && (is_sound (e4.copy j) (e4.words j) (e4.bytes j) && true))))

    pub answered : (r : Result ℕ Refusal) (n : ℕ) → 30 ≤ length ws → r ≡ choice_of lent → n ≡ codes.code_of r → n ≡ returned ws w0 b0 w1 b1 w2 b2 w3 b3 w4 b4
    answered r n h c q =
        q ∙ ap codes.code_of c ∙ (λ j. codes.code_of (cond (all_sound j) (ok_or (cond (eqb (chosen (copies j)) 5) None (Some (chosen (copies j)))) Refusal.NoneFits) (Err Refusal.RulesBroken)))
        ∙ answer sound (eqb taker 5) taker
        ∙ sym (ap (λ (t : Bool). cond (t && sound) (cond (eqb taker 5) (choice_code 39 0) (choice_code 0 taker)) (choice_code 25 0)) (le-leb 30 (length ws) h))
