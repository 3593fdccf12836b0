-- The hold areas: where one begins, and that what is written to one is written to all at its place. Assumes nothing.
use Prim.Native.Nat.{ℕ, zero, suc, ◌+◌, ◌*◌, ◌/◌, ◌%◌, ◌<◌, ◌≤◌}
use mathlib.Core.Path.{◌≡◌, refl, sym, ap, ◌∙◌}
use mathlib.Core.Bool.{Bool, true, false, cond}
use mathlib.Core.List.{List, [], ◌∷◌, ◌++◌}
use native.Mathlib.Omega.{arith}
use native.Mathlib.Nat.{zero-add, suc-add, mul-zero, div-add-mod', mul_comm}
use lib.ListN.{length, set, take, drop, length-set, take-append-drop}
use lib.Seq.{sets, set-append_left, length-take-le}
use lib.Dec.{eqb, ltb}
use borrow.Author.Tests.{eqb-false, ltb-true, ltb-false}
use borrow.Rule.Slice.PartMut.{mid_of, post_of, put_mid, put_same}
use Rattle.model_frame.specs.Bytes.{write}
use Rattle.std.specs.Prelude.{Some, None}
use Rattle.std.specs.Prelude as prelude
use Rattle.standby_row.specs.declared.lookup.Found.{Found}
use Rattle.standby_row.specs.declared.lookup.Lookup.{Lookup}
use Rattle.standby_row.specs.Row.{at_or}
use Rattle.store_areas.proofs.Lists.{inside}
use Rattle.standby_step.specs.Steps.{room_of}
use Rattle.standby_batch_due.specs.DueBatch.{spot_in}

-- ---- where they stand

spot_low : (seen : Lookup) → 0 < seen.len → spot_in seen < seen.len
spot_low seen any = go seen.own refl
  where
    go : (o : prelude.Option Found) → seen.own ≡ o → at_or o 0 < seen.len
    go None e = any
    go (Some f) e = seen.inside f e

-- the part of the record found lies within the area; so does the first one
pub within : (seen : Lookup) (n : ℕ) → spot_in seen * room_of n seen.len + room_of n seen.len ≤ n
within seen n = go (eqb seen.len 0) refl
  where
    go : (t : Bool) → eqb seen.len 0 ≡ t → spot_in seen * cond t 0 (n / seen.len) + cond t 0 (n / seen.len) ≤ n
    go true e = omega (arith, mul-zero (spot_in seen))
    go false e =
        let any : 0 < seen.len = positive seen.len (eqb-false seen.len 0 e) in
        let most : spot_in seen * (n / seen.len) + (n / seen.len) ≤ seen.len * (n / seen.len) = inside (n / seen.len) (spot_in seen) seen.len (spot_low seen any) in
        let whole : (n / seen.len) * seen.len + n % seen.len ≡ n = div-add-mod' n seen.len in
        omega (arith, most, whole, mul_comm (n / seen.len) seen.len)
      where
        positive : (n : ℕ) → (n ≡ 0 → ⊥) → 0 < n
        positive zero off = absurd (off refl)
        positive (suc n) off = omega arith

-- ---- what is written to one

sets_front : (bs m post : List ℕ) (i : ℕ) → i + length bs ≤ length m → sets (m ++ post) i bs ≡ sets m i bs ++ post
sets_front [] m post i fits = refl
sets_front (x ∷ bs) m post i fits =
    let here : i < length m = omega arith in
    let rest : suc i + length bs ≤ length (set m i x) = omega (arith, length-set m i x) in
    ap (λ (l : List ℕ). sets l (suc i) bs) (set-append_left m post i x here) ∙ sets_front bs (set m i x) post (suc i) rest

sets_cons : (bs l : List ℕ) (y i : ℕ) → sets (y ∷ l) (suc i) bs ≡ y ∷ sets l i bs
sets_cons [] l y i = refl
sets_cons (x ∷ bs) l y i = sets_cons bs (set l i x) y (suc i)

sets_past : (front l bs : List ℕ) (i : ℕ) → sets (front ++ l) (length front + i) bs ≡ front ++ sets l i bs
sets_past [] l bs i = ap (λ (k : ℕ). sets l k bs) (zero-add i)
sets_past (y ∷ front) l bs i =
    ap (λ (k : ℕ). sets (y ∷ (front ++ l)) k bs) (suc-add (length front) i) ∙ sets_cons bs (front ++ l) y (length front + i) ∙ ap (λ (r : List ℕ). y ∷ r) (sets_past front l bs i)

-- bytes written in the part are written in the whole
pub write_part : (a k i : ℕ) (l bs : List ℕ) → a ≤ length l → i + length bs ≤ length (mid_of a k l) → put_mid a k l (write (mid_of a k l) i bs) ≡ write l (a + i) bs
unfolding write
write_part a k i l bs low fits =
    sym (ap (λ (x : List ℕ). sets x (a + i) bs) (sym (take-append-drop a l) ∙ ap (λ (x : List ℕ). take a l ++ x) (sym (take-append-drop k (drop a l))))
    ∙ ap (λ (m : ℕ). sets (take a l ++ (mid_of a k l ++ post_of a k l)) (m + i) bs) (sym (length-take-le a l low))
    ∙ sets_past (take a l) (mid_of a k l ++ post_of a k l) bs i
    ∙ ap (λ (x : List ℕ). take a l ++ x) (sets_front bs (mid_of a k l) (post_of a k l) i fits))

-- a word written in the part is written in the whole
set_past : (l : List ℕ) (k v : ℕ) → length l ≤ k → set l k v ≡ l
set_past [] k v h = refl
set_past (x ∷ l) zero v h = absurd (none h)
  where
    none : suc (length l) ≤ 0 → ⊥
    none h = omega arith
set_past (x ∷ l) (suc k) v h = ap (λ (r : List ℕ). x ∷ r) (set_past l k v (omega arith))

pub set_part : (a n k v : ℕ) (l : List ℕ) → a ≤ length l → put_mid a n l (set (mid_of a n l) k v) ≡ cond (ltb k (length (mid_of a n l))) (set l (a + k) v) l
unfolding write
set_part a n k v l low = go (ltb k (length (mid_of a n l))) refl
  where
    go : (t : Bool) → ltb k (length (mid_of a n l)) ≡ t → put_mid a n l (set (mid_of a n l) k v) ≡ cond t (set l (a + k) v) l
    go true e = let less : k < length (mid_of a n l) = ltb-true k (length (mid_of a n l)) e in write_part a n k l (v ∷ []) low (omega arith)
    go false e = ap (put_mid a n l) (set_past (mid_of a n l) k v (ltb-false k (length (mid_of a n l)) e)) ∙ put_same a n l
