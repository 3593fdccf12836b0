-- What a search through the pending commits finds, and what one more adds. Assumes nothing.
use mathlib.Core.Path.{◌≡◌, refl, sym, ap, ◌∙◌}
use mathlib.Core.Bool.{Bool, true, false, ◌||◌}
use mathlib.Core.List.{List, [], ◌∷◌, ◌++◌, map, map-append}
use Prim.Native.Nat.{ℕ, suc, ◌+◌, ◌*◌, ◌/◌, ◌%◌, ◌<◌, ◌≤◌}
use native.Mathlib.Omega.{arith}
use native.Mathlib.Numerals.{add-one}
use lib.ListN.{length, set, take, drop, length-drop, length-set}
use lib.Seq.{drop-set-lt, drop-set-add, take-suc-set, get_or-set_same}
use lib.Dec.{eqb}
use Rattle.std.specs.List.{list_any}
use borrow.Author.Tests.{eq-eqb, ne_eqb, eqb-true, eqb-false}
use Rattle.model_standby.specs.Standby.{pends_on}
use Rattle.standby_pending.specs.Pending.{count_of, commit_of, pending_of}

swapped : (a b : ℕ) → eqb a b ≡ eqb b a
swapped a b = go (eqb a b) refl
  where
    go : (t : Bool) → eqb a b ≡ t → eqb a b ≡ eqb b a
    go true e = e ∙ sym (eq-eqb b a (sym (eqb-true a b e)))
    go false e = e ∙ sym (ne_eqb b a (λ q. eqb-false a b e (sym q)))

-- what the pass over the words of the pending commits tells
pub any_pends : (h : ℕ) (xs : List ℕ) → list_any (λ x. eqb (x % 4294967296) h) xs ≡ pends_on h (map commit_of xs)
any_pends h [] = refl
any_pends h (x ∷ xs) = (λ j. swapped (x % 4294967296) h j || any_pends h xs j)

pub pushed : (w : List ℕ) (n place h : ℕ) → 66 ≤ length w → count_of w ≡ n → n < 64 → h < 4294967296
    → pending_of (set (set w (2 + n) (place * 4294967296 + h)) 1 (n + 1)) ≡ pending_of w ++ ((h, place) ∷ [])
unfolding pending_of
pushed w n place h long count less small =
    let x = place * 4294967296 + h in
    let inside : 1 < length (set w (2 + n) x) = omega (arith, length-set w (2 + n) x) in
    let room : n < length (drop 2 w) = omega (arith, length-drop 2 w) in
    let counts : count_of (set (set w (2 + n) x) 1 (n + 1)) ≡ suc n = get_or-set_same (set w (2 + n) x) 1 (n + 1) 0 inside ∙ rw add-one refl in
    let handle : x % 4294967296 ≡ h = omega arith in
    let at : x / 4294967296 ≡ place = omega arith in
    let two : 1 < 2 = omega arith in
    ap (λ (k : ℕ). map commit_of (take k (drop 2 (set (set w (2 + n) x) 1 (n + 1))))) counts
    ∙ ap (λ (l : List ℕ). map commit_of (take (suc n) l)) (drop-set-lt 2 (set w (2 + n) x) 1 (n + 1) two ∙ drop-set-add 2 w n x)
    ∙ ap (map commit_of) (take-suc-set (drop 2 w) n x room)
    ∙ map-append commit_of (take n (drop 2 w)) (x ∷ [])
    ∙ ap (λ (p : ℕ × ℕ). map commit_of (take n (drop 2 w)) ++ (p ∷ [])) (λ j. (handle j, at j))
    ∙ ap (λ (k : ℕ). map commit_of (take k (drop 2 w)) ++ ((h, place) ∷ [])) (sym count)

pub cleared : (w : List ℕ) → 66 ≤ length w → pending_of (set w 1 0) ≡ []
unfolding pending_of
cleared w long =
    let inside : 1 < length w = omega arith in
    ap (λ (k : ℕ). map commit_of (take k (drop 2 (set w 1 0)))) (get_or-set_same w 1 0 0 inside)
