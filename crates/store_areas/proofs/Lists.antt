-- Lists that count up, and parts of lists that do not meet. Assumes nothing.
use mathlib.Core.Path.{◌≡◌, refl, sym, ap, ◌∙◌}
use mathlib.Core.Logic.{◌⊎◌, inl, inr}
use mathlib.Core.List.{List, [], ◌∷◌, ◌++◌}
use mathlib.Core.Option.{some}
use Prim.Native.Nat.{ℕ, zero, suc, ◌+◌, ◌*◌, ◌≤◌, ◌<◌}
use native.Mathlib.Omega.{arith}
use native.Mathlib.Nat.{mul-le-mul_right, suc-mul}
use lib.ListN.{length, take, get_or, get_elem?}
use lib.Seq.{get_or-take}
use Rattle.model_standby.specs.Store.{Stored, Place, on_stored, on_place}
use Rattle.store_log.proofs.Walk.{cmp}
use Rattle.store_place.specs.Only.{Only}
use Rattle.store_place.proofs.Fields.{only_before, only_after}
use Rattle.store_areas.specs.Areas.{count_up, slice}

-- ---- counting up

pub count_length : {A : Type 0} (f : ℕ → A) (k n : ℕ) → length (count_up f k n) ≡ n
count_length f k zero = refl
count_length f k (suc n) = ap suc (count_length f (suc k) n)

pub count_same : {A : Type 0} (f g : ℕ → A) (k n : ℕ) → ((j : ℕ) → k ≤ j → j < k + n → g j ≡ f j) → count_up g k n ≡ count_up f k n
count_same f g k zero h = refl
count_same f g k (suc n) h = λ i. h k (omega arith) (omega arith) i ∷ count_same f g (suc k) n (λ j a b. h j (omega arith) (omega arith)) i

pub count_snoc : {A : Type 0} (f : ℕ → A) (k n t : ℕ) → t ≡ k + n → count_up f k (suc n) ≡ count_up f k n ++ (f t ∷ [])
count_snoc f k zero t e =
    let z : k ≡ t = omega arith in
    ap (λ (j : ℕ). f j ∷ []) z
count_snoc {A} f k (suc n) t e = ap (λ (l : List A). f k ∷ l) (count_snoc f (suc k) n t (omega arith))

pub count_at : {A : Type 0} (f : ℕ → A) (k n i t : ℕ) → t ≡ k + i → i < n → get_elem? (count_up f k n) i ≡ some (f t)
count_at f k zero i t e h = absurd (omega arith)
count_at f k (suc n) zero t e h =
    let z : k ≡ t = omega arith in
    ap (λ (j : ℕ). some (f j)) z
count_at f k (suc n) (suc i) t e h = count_at f (suc k) n i t (omega arith) (omega arith)

-- one element changes
pub count_one : (f g : ℕ → Place) (h : Stored → Stored) (k n i t : ℕ) → t ≡ k + i → i < n → g t ≡ on_stored h (f t)
    → ((j : ℕ) → (j ≡ t → ⊥) → g j ≡ f j) → count_up g k n ≡ on_place i h (count_up f k n)
count_one f g h k zero i t e l own other = absurd (omega arith)
count_one f g h k (suc n) zero t e l own other =
    let z : k ≡ t = omega arith in
    λ j. (ap g z ∙ own ∙ ap (λ (x : ℕ). on_stored h (f x)) (sym z)) j ∷ count_same f g (suc k) n (λ m a b. other m (λ q. omega arith)) j
count_one f g h k (suc n) (suc i) t e l own other =
    λ j. other k (λ q. omega arith) j ∷ count_one f g h (suc k) n i t (omega arith) (omega arith) own other j

-- ---- parts of W elements each, one after the other

pub inside : (W i n : ℕ) → i < n → i * W + W ≤ n * W
inside W i n h = omega (arith, mul-le-mul_right {m = suc i} {n = n} W h, suc-mul i W)

pub apart : (W i j : ℕ) → (j ≡ i → ⊥) → (j * W + W ≤ i * W) ⊎ (i * W + W ≤ j * W)
apart W i j ne = go (cmp i j)
  where
    go : (i ≤ j) ⊎ (j < i) → (j * W + W ≤ i * W) ⊎ (i * W + W ≤ j * W)
    go (inr h) = inl (inside W j i h)
    go (inl h) = inr (inside W i j (omega (arith, ne)))

-- a part that does not meet what changes
pub part_kept : (a e at n : ℕ) (l l' : List ℕ) → Only a e l l' → (at + n ≤ a) ⊎ (e ≤ at) → slice at n l' ≡ slice at n l
part_kept a e at n l l' o (inl h) = only_before a e at n l l' o h
part_kept a e at n l l' o (inr h) = ap (take n) (only_after a e at l l' o h)

-- an element before what changes
pub word_kept : (a e i : ℕ) (l l' : List ℕ) → Only a e l l' → i < a → get_or l' i 0 ≡ get_or l i 0
word_kept a e i l l' o h = sym (get_or-take a l' i 0 h) ∙ ap (λ (t : List ℕ). get_or t i 0) o.front ∙ get_or-take a l i 0 h
