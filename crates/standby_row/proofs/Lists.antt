-- Facts of the lists that `specs/Row.antt` speaks of: what the searches and the loop ask. Assumes nothing.
use mathlib.Core.Path.{◌≡◌, refl, sym, ◌∙◌, ap}
use mathlib.Core.Bool.{Bool, true, false, cond, not}
use Prim.Native.Nat.{ℕ, zero, suc, ◌+◌, ◌-◌, ◌<◌, ◌≤◌, min}
use native.Mathlib.Omega.{arith}
use native.Mathlib.Nat.{not-suc-le-zero, le_of_suc-le-suc}
use native.Mathlib.Numerals.{add-one}
use mathlib.Core.List.{List, [], ◌∷◌, ◌++◌}
use Rattle.std.specs.Prelude.{Option, Some, None, position}
use Rattle.std.specs.List.{position_or_len}
use Rattle.std.proofs.lemmas.List.{append-nil}
use borrow.Rule.Slice.PartMut.{put_mid}
use lib.Seq.{take-length}
use lib.Dec.{leb, ltb}
use lib.ListN.{length, get_or, set, take, drop, drop_of_length-le, length-map}
use borrow.Author.Tests.{leb-true, leb-false, ltb-true}
use Rattle.standby_row.specs.declared.Bound.{Bound}
use Rattle.standby_row.specs.Row.{free_record, zero_or_next, first_of, place_in, cleared, cleared_from}

-- ---- a search
--     placed      what `position` gives is the place of the first record, if there is one        none_at    at the length there is none

first_is : (p : Bound → Bool) (hs : List Bound) → position_or_len p hs ≡ first_of p hs
first_is p [] = refl
first_is p (h ∷ hs) = go (p h) (first_is p hs)
  where
    go : (t : Bool) → position_or_len p hs ≡ first_of p hs → cond (not t) (1 + position_or_len p hs) 0 ≡ zero_or_next t (first_of p hs)
    go true e = refl
    go false e = omega (arith, e)

pub placed : (p : Bound → Bool) (hs : List Bound) → position p hs ≡ place_in hs (first_of p hs)
placed p hs = ap (place_in hs) (first_is p hs)

pub none_at : (hs : List Bound) {n : ℕ} → n ≡ length hs → ◌≡◌ {A = Option ℕ} None (place_in hs n)
none_at hs {n} e = ap (λ (b : Bool). cond b (Some n) None) (sym (no (ltb n (length hs)) refl))
  where
    no : (t : Bool) → ltb n (length hs) ≡ t → ltb n (length hs) ≡ false
    no true t =
        let less : n < length hs = ltb-true n (length hs) t in
        absurd (omega (arith, e))
    no false t = t

-- ---- a row whose records are freed from i on
--     clears_next      the record at i is freed, and then those after it.        clears_end      from the length on there is none
--     cleared_length   as many records as before                              freed           the records of a part are freed, and the part is put back
clears_suc : (i : ℕ) (ys : List Bound) → i < length ys → cleared_from (suc i) (set ys i (cleared (get_or ys i free_record))) ≡ cleared_from i ys
clears_suc i [] l = absurd (not-suc-le-zero l)
clears_suc zero (y ∷ ys) l = refl
clears_suc (suc i) (y ∷ ys) l = ap (λ (hs : List Bound). y ∷ hs) (clears_suc i ys (le_of_suc-le-suc l))

pub clears_next : (i : ℕ) (ys : List Bound) → i < length ys → cleared_from (i + 1) (set ys i (cleared (get_or ys i free_record))) ≡ cleared_from i ys
clears_next i ys l = ap (λ (j : ℕ). cleared_from j (set ys i (cleared (get_or ys i free_record)))) (add-one i) ∙ clears_suc i ys l

pub clears_end : (i : ℕ) (ys : List Bound) → length ys ≤ i → cleared_from i ys ≡ ys
clears_end zero [] l = refl
clears_end zero (y ∷ ys) l = absurd (not-suc-le-zero l)
clears_end (suc i) [] l = refl
clears_end (suc i) (y ∷ ys) l = ap (λ (hs : List Bound). y ∷ hs) (clears_end i ys (le_of_suc-le-suc l))

pub cleared_length : (i : ℕ) (ys : List Bound) → length (cleared_from i ys) ≡ length ys
cleared_length zero ys = length-map ys cleared
cleared_length (suc i) [] = refl
cleared_length (suc i) (y ∷ ys) = ap suc (cleared_length i ys)

-- the records of the part from i on are freed, and put back
part_cleared : (i k : ℕ) (ys : List Bound) → i + k ≡ length ys → take i ys ++ (cleared_from 0 (take k (drop i ys)) ++ drop k (drop i ys)) ≡ cleared_from i ys
part_cleared zero k ys e =
    let all : k ≡ length ys = omega arith in
    let past : drop (length ys) ys ≡ [] = drop_of_length-le ys (omega arith) in
    ap (λ (m : ℕ). cleared_from 0 (take m ys) ++ drop m ys) all ∙ (λ j. cleared_from 0 (take-length ys j) ++ past j) ∙ append-nil (cleared_from 0 ys)
part_cleared (suc i) k [] e = absurd (omega arith)
part_cleared (suc i) k (y ∷ ys) e =
    let rest : i + k ≡ length ys = omega arith in
    ap (λ (hs : List Bound). y ∷ hs) (part_cleared i k ys rest)

pub freed : (i s : ℕ) (ys items : List Bound) → s ≡ min i (length ys) → items ≡ cleared_from 0 (take (length ys - s) (drop s ys)) → put_mid s (length ys - s) ys items ≡ cleared_from i ys
freed i s ys items e f =
    let whole : s + (length ys - s) ≡ length ys = omega arith in
    ap (put_mid s (length ys - s) ys) f ∙ part_cleared s (length ys - s) ys whole ∙ go (leb (length ys) i) refl
  where
    go : (t : Bool) → leb (length ys) i ≡ t → cleared_from s ys ≡ cleared_from i ys
    go true h =
        let past : length ys ≤ i = leb-true (length ys) i h in
        let past' : length ys ≤ s = omega arith in
        clears_end s ys past' ∙ sym (clears_end i ys past)
    go false h =
        let inside : i < length ys = leb-false (length ys) i h in
        let same : s ≡ i = omega arith in
        ap (λ (k : ℕ). cleared_from k ys) same
