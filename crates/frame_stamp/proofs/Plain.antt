-- Printable ASCII: the loop over the bytes. Assumes nothing.
use mathlib.Core.Path.{◌≡◌, sym, ap, ◌∙◌}
use mathlib.Core.Bool.{Bool, ◌&&◌, and_assoc, and-true}
use mathlib.Core.List.{List}
use Prim.Native.Nat.{ℕ, suc, ◌+◌, ◌≤◌, ◌<◌}
use native.Mathlib.Numerals.{add-one}
use lib.ListN.{length, drop, get_or, drop_of_length-le}
use lib.Seq.{drop-cons}
use Rattle.model_text.specs.Printable.{is_printable_byte, all_printable}

-- so far it is ok, and the rest is from i on
abbrev pub Upto : List ℕ → Bool → ℕ → Type 0
Upto s ok i = all_printable s ≡ (ok && all_printable (drop i s))

pub next : (s : List ℕ) (ok : Bool) (i : ℕ) {t : Bool} → Upto s ok i → i < length s → t ≡ is_printable_byte (get_or s i 0) → Upto s (ok && t) (i + 1)
next s ok i {t} r h e =
    r ∙ ap (λ (l : List ℕ). ok && all_printable l) (drop-cons s i 0 h) ∙ sym (and_assoc ok (is_printable_byte (get_or s i 0)) (all_printable (drop (suc i) s)))
    ∙ (λ j. ok && sym e j && all_printable (drop (sym (add-one i) j) s))

pub ends : (s : List ℕ) (ok : Bool) (i : ℕ) → Upto s ok i → length s ≤ i → ok ≡ all_printable s
ends s ok i r h = sym (r ∙ ap (λ (l : List ℕ). ok && all_printable l) (drop_of_length-le s h) ∙ and-true ok)
