-- Small facts on tests, options and lists.
-- Assumes nothing.
use mathlib.Core.Path.{◌≡◌, refl}
use Prim.Native.Nat.{ℕ, suc, ◌≤◌, ◌<◌}
use native.Mathlib.Omega.{arith}
use mathlib.Core.List.{List, [], ◌∷◌, ◌++◌, append_assoc}
use mathlib.Core.Option.{Option, none, some}
use mathlib.Core.Bool.{Bool, true, false, cond, not, ◌&&◌}
use lib.Arith.{lt→nleb, le→nltb}
use lib.Dec.{T, ltb, leb, eqb, le→leb, eqb→eq, eqb_refl}
use Rattle.model_frame.specs.Parse.{Each}

pub T→true : (b : Bool) → T b → b ≡ true
T→true true t = refl
T→true false t = absurd t

pub notT→false : (b : Bool) → T (not b) → b ≡ false
notT→false true t = absurd t
notT→false false t = refl

pub true→T : (b : Bool) → b ≡ true → T b
true→T true e = tt
true→T false e = let z : ◌≡◌ {A = ℕ} 0 1 = cc in absurd (omega arith)

pub false→not_t : (b : Bool) → b ≡ false → T (not b)
false→not_t false e = tt
false→not_t true e = let z : ◌≡◌ {A = ℕ} 0 1 = cc in absurd (omega arith)

pub true≢false : ◌≡◌ {A = Bool} true false → ⊥
true≢false e = let z : ◌≡◌ {A = ℕ} 0 1 = cc in omega arith

-- the tests as equations: a test that stands bare in an equation is found by antt, under `T` it is not
pub and_true : {a b : Bool} → a ≡ true → b ≡ true → (a && b) ≡ true
and_true {a} {b} p q = rw (p, q)

pub and_l : (a b : Bool) → T (a && b) → T a
and_l true b t = tt
and_l false b t = t

pub and_r : (a b : Bool) → T (a && b) → T b
and_r true b t = t
and_r false b t = absurd t

pub leb_true : {m n : ℕ} → m ≤ n → leb m n ≡ true
leb_true {m} {n} h = T→true (leb m n) (le→leb m n h)

pub ltb_true : {m n : ℕ} → m < n → ltb m n ≡ true
ltb_true {m} {n} h = T→true (ltb m n) (le→leb (suc m) n h)

pub leb_false : {m n : ℕ} → n < m → leb m n ≡ false
leb_false {m} {n} h = notT→false (leb m n) (lt→nleb m n h)

pub ltb_false : {m n : ℕ} → n ≤ m → ltb m n ≡ false
ltb_false {m} {n} h = notT→false (ltb m n) (le→nltb m n h)

pub eqb_true : (n : ℕ) → eqb n n ≡ true
eqb_true n = T→true (eqb n n) (eqb_refl n)

pub eqb_sound : (a b : ℕ) → eqb a b ≡ true → a ≡ b
eqb_sound a b e = eqb→eq a b (true→T (eqb a b) e)

-- the two cases of a test
pub cond_cases {ℓ κ} : {A : Type ℓ} (P : A → Type κ) (b : Bool) {x y : A} → (T b → P x) → (T (not b) → P y) → P (cond b x y)
cond_cases P true f g = f tt
cond_cases P false f g = g tt

pub cond-true {ℓ} : {A : Type ℓ} {b : Bool} (x y : A) → b ≡ true → cond b x y ≡ x
cond-true x y e = rw e

pub cond-false {ℓ} : {A : Type ℓ} {b : Bool} (x y : A) → b ≡ false → cond b x y ≡ y
cond-false x y e = rw e

pub none≢some : {A : Type 0} {a : A} → ◌≡◌ {A = Option A} none (some a) → ⊥
none≢some e = let z : ◌≡◌ {A = ℕ} 0 1 = cc in omega arith

pub some_inj : {A : Type 0} {a b : A} → ◌≡◌ {A = Option A} (some a) (some b) → a ≡ b
some_inj e = cc

pub snoc_append : {A : Type 0} (xs : List A) (a : A) (ys : List A) → (xs ++ (a ∷ [])) ++ ys ≡ xs ++ (a ∷ ys)
snoc_append xs a ys = append_assoc xs (a ∷ []) ys

-- ---- a fact of each

module _ {A : Type 0} (P : A → Type 0) where
  pub each_append : (x y : List A) → Each P x → Each P y → Each P (x ++ y)
  each_append [] y p q = q
  each_append (a ∷ x) y p q = (p.0, each_append x y p.1 q)

  pub each_left : (x y : List A) → Each P (x ++ y) → Each P x
  each_left [] y p = tt
  each_left (a ∷ x) y p = (p.0, each_left x y p.1)

  pub each_right : (x y : List A) → Each P (x ++ y) → Each P y
  each_right [] y p = p
  each_right (a ∷ x) y p = each_right x y p.1

pub each_map : {A : Type 0} (P Q : A → Type 0) → ((a : A) → P a → Q a) → (l : List A) → Each P l → Each Q l
each_map P Q f [] p = tt
each_map P Q f (a ∷ l) p = (f a p.0, each_map P Q f l p.1)
