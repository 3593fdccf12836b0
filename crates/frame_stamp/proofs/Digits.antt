-- Digits: the loop over the bytes. Assumes nothing.
use mathlib.Core.Path.{◌≡◌, refl, sym, ap, ◌∙◌}
use mathlib.Core.Bool.{Bool, true, ◌&&◌, and_assoc, and-true}
use mathlib.Core.List.{List, [], ◌∷◌}
use Prim.Native.Nat.{ℕ, suc, ◌+◌, ◌≤◌, ◌<◌}
use native.Mathlib.Numerals.{add-one}
use lib.ListN.{length, drop, get_or, drop_of_length-le}
use lib.Seq.{drop-cons}
use Rattle.model_text.specs.Stamp.{is_digit, matches, digits}

abbrev pub digits_only : List ℕ → Bool
digits_only [] = true
digits_only (b ∷ l) = is_digit b && digits_only l

pub only : (l : List ℕ) → matches (digits (length l)) l ≡ digits_only l
only [] = refl
only (b ∷ l) = ap (λ (t : Bool). is_digit b && t) (only l)

-- so far it is ok, and the rest is from i on
abbrev pub Upto : List ℕ → Bool → ℕ → Type 0
Upto s ok i = digits_only s ≡ (ok && digits_only (drop i s))

pub next : (s : List ℕ) (ok : Bool) (i : ℕ) {t : Bool} → Upto s ok i → i < length s → t ≡ is_digit (get_or s i 0) → Upto s (ok && t) (i + 1)
next s ok i {t} r h e =
    r ∙ ap (λ (l : List ℕ). ok && digits_only l) (drop-cons s i 0 h) ∙ sym (and_assoc ok (is_digit (get_or s i 0)) (digits_only (drop (suc i) s)))
    ∙ (λ j. ok && sym e j && digits_only (drop (sym (add-one i) j) s))

pub ends : (s : List ℕ) (ok : Bool) (i : ℕ) → Upto s ok i → length s ≤ i → ok ≡ matches (digits (length s)) s
ends s ok i r h = sym (only s ∙ r ∙ ap (λ (l : List ℕ). ok && digits_only l) (drop_of_length-le s h) ∙ and-true ok)
