-- The tables of specs/Utf8.antt, a rule a line. Assumes nothing.
use mathlib.Core.Path.{◌≡◌, sym, ◌∙◌}
use mathlib.Core.Bool.{Bool, ◌&&◌, and_assoc, and-true}
use mathlib.Core.List.{List, ◌∷◌}
use Prim.Native.Nat.{ℕ, ◌≤◌, ◌<◌, ◌+◌, ◌*◌, ◌%◌}
use native.Mathlib.Omega.{arith}
use borrow.Author.Tests.{le-leb, lt-leb}
use Rattle.model_text.specs.Utf8.{lead_length, own_bits, is_tail, fitting, well_formed}

module _ (a : ℕ) where
  pub lead_one : a ≤ 0x7F → lead_length a ≡ 1
  unfolding lead_length
  lead_one h = simp (le-leb a 0x7F h)

  pub lead_none : 0x7F < a → a ≤ 0xBF → lead_length a ≡ 0
  unfolding lead_length
  lead_none l h = simp (lt-leb a 0x7F l, le-leb a 0xBF h)

  pub lead_two : 0xBF < a → a ≤ 0xDF → lead_length a ≡ 2
  unfolding lead_length
  lead_two l h = simp (lt-leb a 0x7F (omega arith), lt-leb a 0xBF l, le-leb a 0xDF h)

  pub lead_three : 0xDF < a → a ≤ 0xEF → lead_length a ≡ 3
  unfolding lead_length
  lead_three l h = simp (lt-leb a 0x7F (omega arith), lt-leb a 0xBF (omega arith), lt-leb a 0xDF l, le-leb a 0xEF h)

  pub lead_four : 0xEF < a → a ≤ 0xF7 → lead_length a ≡ 4
  unfolding lead_length
  lead_four l h = simp (lt-leb a 0x7F (omega arith), lt-leb a 0xBF (omega arith), lt-leb a 0xDF (omega arith), lt-leb a 0xEF l, le-leb a 0xF7 h)

  pub lead_high : 0xF7 < a → lead_length a ≡ 0
  unfolding lead_length
  lead_high l = simp (lt-leb a 0x7F (omega arith), lt-leb a 0xBF (omega arith), lt-leb a 0xDF (omega arith), lt-leb a 0xEF (omega arith), lt-leb a 0xF7 l)

-- ---- a sequence of two, three, four bytes

module _ (a b : ℕ) {t : Bool} (et : t ≡ is_tail b) where
  pub formed_two : {n : ℕ} {f : Bool} → n ≡ a % 32 * 64 + b % 64 → f ≡ fitting 2 n → (l : List ℕ) → (t && f) ≡ well_formed 2 a (b ∷ l)
  unfolding well_formed own_bits
  formed_two en ef l = (λ i. et i && ef i) ∙ (λ i. is_tail b && fitting 2 (en i)) ∙ sym (simp and-true)

  module _ (c : ℕ) {u : Bool} (eu : u ≡ is_tail c) where
    pub formed_three : {n : ℕ} {f : Bool} → n ≡ (a % 16 * 64 + b % 64) * 64 + c % 64 → f ≡ fitting 3 n
        → (l : List ℕ) → (t && u && f) ≡ well_formed 3 a (b ∷ c ∷ l)
    unfolding well_formed own_bits
    formed_three en ef l = (λ i. et i && eu i && ef i) ∙ (λ i. is_tail b && is_tail c && fitting 3 (en i)) ∙ sym (simp and-true)

    pub formed_four : (d : ℕ) {v : Bool} → v ≡ is_tail d → {n : ℕ} {f : Bool} → n ≡ ((a % 8 * 64 + b % 64) * 64 + c % 64) * 64 + d % 64
        → f ≡ fitting 4 n → (l : List ℕ) → (t && u && v && f) ≡ well_formed 4 a (b ∷ c ∷ d ∷ l)
    unfolding well_formed own_bits
    formed_four d ev en ef l =
        (λ i. et i && eu i && ev i && ef i) ∙ (λ i. is_tail b && is_tail c && is_tail d && fitting 4 (en i))
        ∙ simp (and_assoc, and-true)
