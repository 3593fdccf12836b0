-- The laws of a run of items, of any parser: where it ends, one item after the other, and its items. Assumes nothing.
use mathlib.Core.Path.{◌≡◌, refl, ◌∙◌}
use mathlib.Core.List.{List, [], ◌∷◌}
use mathlib.Core.Bool.{Bool, true, false, cond}
use Prim.Native.Nat.{ℕ, zero, suc, ◌+◌, ◌-◌, ◌*◌, ◌≤◌, ◌<◌}
use native.Mathlib.Nat.{not-suc-le-zero, zero-mul, suc-mul}
use native.Mathlib.Omega.{arith}
use borrow.Author.Tests.{leb-true}
use lib.Dec.{leb}
use lib.ListN.{length, take, drop, length-drop}
use lib.Seq.{drop-drop}
use Rattle.model_frame.specs.Bytes.{le}
use Rattle.model_frame.specs.Frame.{Fault, truncated}
use Rattle.model_frame.specs.Parse.{Res, ok, bad, Parser, and_then, read_num, read_count, many, forget, item_then, collect}
use Rattle.base_laws.proofs.Places.{num_whole}

module _ {A : Type 0} where
  forget_cons : (a : A) (m : Res (List A)) → forget (and_then m (λ xs s. ok (a ∷ xs) s)) ≡ forget m
  forget_cons a (ok xs s) = refl
  forget_cons a (bad e) = refl

  pub run_none : (p : Parser A) (n : ℕ) (s : List ℕ) → n ≤ 0 → forget (many n p s) ≡ ok tt s
  unfolding many
  run_none p zero s h = refl
  run_none p (suc n) s h = absurd (not-suc-le-zero h)

  pub run_more : (p : Parser A) (n : ℕ) {a : A} {s s' : List ℕ} → 0 < n → p s ≡ ok a s' → forget (many n p s) ≡ forget (many (n - 1) p s')
  unfolding many
  run_more p zero h e = absurd (not-suc-le-zero h)
  run_more p (suc n) {a} {s} {s'} h e =
      let k : suc n - 1 ≡ n = omega arith in
      rw (k, e) (forget_cons a (many n p s'))

  pub run_bad : (p : Parser A) (n : ℕ) {s : List ℕ} {e : Fault} → 0 < n → p s ≡ bad e → forget (many n p s) ≡ bad e
  unfolding many
  run_bad p zero h e = absurd (not-suc-le-zero h)
  run_bad p (suc n) h e = rw e

  pub run_fault : (m : Res (List A)) {e : Fault} → bad e ≡ forget m → bad e ≡ m
  run_fault (ok xs t) e = cc
  run_fault (bad f) e = cc

  pub run_items : (p : Parser A) (n : ℕ) (s : List ℕ) {t : List ℕ} → ok tt t ≡ forget (many n p s) → ok (collect n p s) t ≡ many n p s
  unfolding many collect
  run_items p zero s e = cc
  run_items p (suc n) s {t} e = go (p s) (λ s'. run_items p n s') e
    where
      go :
          (r : Res A) →
          ((s' : List ℕ) → ok tt t ≡ forget (many n p s') → ok (collect n p s') t ≡ many n p s') →
          ok tt t ≡ forget (and_then r (λ x s'. and_then (many n p s') (λ xs s''. ok (x ∷ xs) s''))) →
          ok (item_then r (collect n p)) t ≡ and_then r (λ x s'. and_then (many n p s') (λ xs s''. ok (x ∷ xs) s''))
      go (ok a s') ih e = rw (← (ih s' (e ∙ forget_cons a (many n p s'))))
      go (bad f) ih e = cc

  -- the items of a run, one after the other
  pub collect_none : (p : Parser A) (n : ℕ) (s : List ℕ) → n ≤ 0 → collect n p s ≡ []
  unfolding collect
  collect_none p zero s h = refl
  collect_none p (suc n) s h = absurd (not-suc-le-zero h)

  pub collect_more : (p : Parser A) (n : ℕ) {a : A} {s s' : List ℕ} → 0 < n → p s ≡ ok a s' → collect n p s ≡ a ∷ collect (n - 1) p s'
  unfolding collect
  collect_more p zero h e = absurd (not-suc-le-zero h)
  collect_more p (suc n) h e =
      let k : suc n - 1 ≡ n = omega arith in
      rw (k, e)

  pub collect_bad : (p : Parser A) (n : ℕ) {s : List ℕ} {e : Fault} → p s ≡ bad e → collect n p s ≡ []
  unfolding collect
  collect_bad p zero e = refl
  collect_bad p (suc n) e = rw e

-- numbers of w bytes each: where a run of them ends
pub numbers_end : (w n : ℕ) (s : List ℕ) → n * w ≤ length s → forget (many n (read_num w) s) ≡ ok tt (drop (n * w) s)
unfolding many
numbers_end w zero s h = rw zero-mul
numbers_end w (suc n) s h =
    let room : w ≤ length s = omega (arith, suc-mul n w) in
    let rest : n * w ≤ length (drop w s) = omega (arith, suc-mul n w, length-drop w s) in
    let one : read_num w s ≡ ok (le (take w s)) (drop w s) = num_whole w s room in
    let sum : suc n * w ≡ w + n * w = omega (arith, suc-mul n w) in
    rw (one, forget_cons (le (take w s)) (many n (read_num w) (drop w s)), sum, ← drop-drop (n * w) w s) (numbers_end w n (drop w s) rest)

-- a count was followed by room for its items
pub count_room : (min : ℕ) (s : List ℕ) {n : ℕ} {t : List ℕ} → read_count min s ≡ ok n t → n * min ≤ length t
unfolding read_count
count_room min s {n} {t} e = go (read_num 4 s) e
  where
    kept : (m : ℕ) (u : List ℕ) (k : Bool) → leb (m * min) (length u) ≡ k → cond k (ok m u) (bad truncated) ≡ ok n t → n * min ≤ length t
    kept m u true h e =
        let p : m ≡ n = cc in
        let q : u ≡ t = cc in
        rw (← p, ← q) (leb-true (m * min) (length u) h)
    kept m u false h e = let z : ◌≡◌ {A = ℕ} 0 1 = cc in absurd (omega arith)

    go : (r : Res ℕ) → and_then r (λ m u. cond (leb (m * min) (length u)) (ok m u) (bad truncated)) ≡ ok n t → n * min ≤ length t
    go (ok m u) e = kept m u (leb (m * min) (length u)) refl e
    go (bad f) e = let z : ◌≡◌ {A = ℕ} 0 1 = cc in absurd (omega arith)
