-- A walk down a chain: what it finds, and on what it goes by. Assumes nothing.
use mathlib.Core.Path.{◌≡◌, refl, sym, ap, ◌∙◌}
use mathlib.Core.Bool.{Bool, true, false, cond}
use mathlib.Core.List.{List}
use Prim.Native.Nat.{ℕ, zero, suc, ◌%◌, ◌<◌, ◌≤◌}
use native.Mathlib.Omega.{arith}
use lib.Dec.{eqb}
use borrow.Author.Tests.{eqb-true, eqb-false, ne_eqb}
use Rattle.active_quorum.specs.Area.{handle_word, before_at, walk_chain}

no_less : (n : ℕ) → n < 0 → ⊥
no_less n h = omega arith

-- a place that isn't below ends it
pub walk_out : (w : List ℕ) (h b p : ℕ) → b ≤ p → walk_chain w h b p ≡ 256
walk_out w h zero p over = refl
walk_out w h (suc b) p over =
    let o : eqb p b ≡ false = ne_eqb p b (λ e. omega arith) in
    rw o (walk_out w h b p (omega arith))

-- a place that is below is looked at
abbrev pub look : List ℕ → ℕ → ℕ → ℕ
look w h p = cond (eqb (handle_word w p) h) p (cond (eqb (handle_word w p % 256) (h % 256)) (walk_chain w h p (before_at w p)) 256)

pub walk_in : (w : List ℕ) (h b p : ℕ) → p < b → walk_chain w h b p ≡ look w h p
walk_in w h zero p less = absurd (no_less p less)
walk_in w h (suc b) p less = go (eqb p b) refl (walk_in w h b p)
  where
    go : (t : Bool) → eqb p b ≡ t → (p < b → walk_chain w h b p ≡ look w h p) → cond t (look w h b) (walk_chain w h b p) ≡ look w h p
    go true e ih = ap (look w h) (sym (eqb-true p b e))
    go false e ih =
        let other : p ≡ b → ⊥ = eqb-false p b e in
        ih (omega arith)

-- what is found is below, and holds the handle
pub record Found (w : List ℕ) (h b i : ℕ) : Type 0 where
  pub below : i < b
  pub own : handle_word w i ≡ h

no_more : 256 < 256 → ⊥
no_more h = omega arith

wider : {w : List ℕ} {h b i : ℕ} → Found w h b i → Found w h (suc b) i
wider f = record { below = omega (arith, f.below); own = f.own }

pub found : (w : List ℕ) (h b p : ℕ) → walk_chain w h b p < 256 → Found w h b (walk_chain w h b p)
found w h zero p less = absurd (no_more less)
found w h (suc b) p less = go (eqb p b) (eqb (handle_word w b) h) refl (eqb (handle_word w b % 256) (h % 256)) less (found w h b (before_at w b)) (found w h b p)
  where
    go : (s t : Bool) → eqb (handle_word w b) h ≡ t → (u : Bool) → cond s (cond t b (cond u (walk_chain w h b (before_at w b)) 256)) (walk_chain w h b p) < 256
        → (walk_chain w h b (before_at w b) < 256 → Found w h b (walk_chain w h b (before_at w b)))
        → (walk_chain w h b p < 256 → Found w h b (walk_chain w h b p))
        → Found w h (suc b) (cond s (cond t b (cond u (walk_chain w h b (before_at w b)) 256)) (walk_chain w h b p))
    go true true e u less f g = record { below = omega arith; own = eqb-true (handle_word w b) h e }
    go true false e true less f g = wider (f less)
    go true false e false less f g = absurd (no_more less)
    go false t e u less f g = wider (g less)

-- it goes by the handles and the links of the places below
pub walk_same : (v w : List ℕ) (h b p : ℕ) → ((j : ℕ) → j < b → (handle_word v j ≡ handle_word w j) × (before_at v j ≡ before_at w j)) → walk_chain v h b p ≡ walk_chain w h b p
walk_same v w h zero p f = refl
walk_same v w h (suc b) p f =
    both (f b (omega arith)).0 (walk_same v w h b (before_at v b) (λ j less. f j (omega arith)) ∙ ap (walk_chain w h b) (f b (omega arith)).1) (walk_same v w h b p (λ j less. f j (omega arith)))
  where
    both : {x y k l m n : ℕ} → x ≡ y → k ≡ l → m ≡ n
        → cond (eqb p b) (cond (eqb x h) b (cond (eqb (x % 256) (h % 256)) k 256)) m ≡ cond (eqb p b) (cond (eqb y h) b (cond (eqb (y % 256) (h % 256)) l 256)) n
    both a c d = λ t. cond (eqb p b) (cond (eqb (a t) h) b (cond (eqb (a t % 256) (h % 256)) (c t) 256)) (d t)
