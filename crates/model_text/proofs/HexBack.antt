-- Digits that were written are read back, and digits that are read are those that would be written. Assumes nothing.
use mathlib.Core.Path.{◌≡◌, refl, ap}
use mathlib.Core.Bool.{Bool, true, false, cond, ◌&&◌}
use mathlib.Core.List.{List, [], ◌∷◌}
use mathlib.Core.Option.{Option, none, some}
use Prim.Native.Nat.{ℕ, ◌+◌, ◌-◌, ◌*◌, ◌/◌, ◌%◌, ◌<◌, ◌≤◌}
use native.Mathlib.Omega.{arith}
use borrow.Author.Tests.{ltb-true, ltb-false, leb-true, lt-ltb, le-ltb, le-leb, lt-leb}
use lib.Dec.{leb, ltb}
use lib.ListN.{length}
use Rattle.model_text.specs.Hex.{digit_value, byte_then, bytes_from, longest_line, line_bytes, digit_of, hex_of}
use Rattle.model_text.proofs.Formed.{and_l, and_r}

-- ---- one digit

pub digit_back : (v : ℕ) → v < 16 → digit_value (digit_of v) ≡ v
unfolding digit_value digit_of
digit_back v h = go (ltb v 10) refl
  where
    go : (t : Bool) → ltb v 10 ≡ t → digit_value (cond t (48 + v) (87 + v)) ≡ v
    go true e =
        let low : v < 10 = ltb-true v 10 e in
        simp (le-leb 48 (48 + v) (omega arith), le-leb (48 + v) 57 (omega arith)) (omega arith)
    go false e =
        let high : 10 ≤ v = ltb-false v 10 e in
        simp (lt-leb (87 + v) 57 (omega arith), le-leb 48 (87 + v) (omega arith), le-leb 97 (87 + v) (omega arith), le-leb (87 + v) 102 (omega arith)) (omega arith)

pub digit_was : (b : ℕ) → digit_value b < 16 → digit_of (digit_value b) ≡ b
unfolding digit_value digit_of
digit_was b h = go (leb 48 b && leb b 57) refl (leb 97 b && leb b 102) refl h
  where
    go : (t : Bool) → (leb 48 b && leb b 57) ≡ t → (u : Bool) → (leb 97 b && leb b 102) ≡ u → cond t (b - 48) (cond u (b - 87) 16) < 16 → digit_of (cond t (b - 48) (cond u (b - 87) 16)) ≡ b
    go true e u f h =
        let low : 48 ≤ b = leb-true 48 b (and_l (leb 48 b) (leb b 57) e) in
        let high : b ≤ 57 = leb-true b 57 (and_r (leb 48 b) (leb b 57) e) in
        simp (lt-ltb (b - 48) 10 (omega arith)) (omega arith)
    go false e true f h =
        let low : 97 ≤ b = leb-true 97 b (and_l (leb 97 b) (leb b 102) f) in
        simp (le-ltb (b - 87) 10 (omega arith)) (omega arith)
    go false e false f h = absurd (omega arith)

-- ---- all digits

abbrev pub Bytes : List ℕ → Type 0
Bytes [] = Unit {0}
Bytes (b ∷ l) = (b < 256) × Bytes l

pub hex_back : (bs : List ℕ) → Bytes bs → bytes_from (hex_of bs) ≡ some bs
hex_back [] h = refl
hex_back (b ∷ l) h =
    let high : b / 16 < 16 = omega (arith, h.0) in
    let low : b % 16 < 16 = omega arith in
    let whole : b / 16 * 16 + b % 16 ≡ b = omega arith in
    rw (digit_back (b / 16) high, digit_back (b % 16) low, lt-ltb (b / 16) 16 high, lt-ltb (b % 16) 16 low, hex_back l h.1, whole) refl

-- what the digits a and b give, in front of what the rest gives
read_two : (a b : ℕ) (l bs : List ℕ) → (t : Bool) → (ltb (digit_value a) 16 && ltb (digit_value b) 16) ≡ t → (r : Option (List ℕ))
    → ((xs : List ℕ) → r ≡ some xs → (hex_of xs ≡ l) × Bytes xs) → cond t (byte_then (digit_value a * 16 + digit_value b) r) none ≡ some bs → (hex_of bs ≡ a ∷ b ∷ l) × Bytes bs
read_two a b l bs false q r rest e = absurd (let z : ◌≡◌ {A = ℕ} 0 1 = cc in omega arith)
read_two a b l bs true q none rest e = absurd (let z : ◌≡◌ {A = ℕ} 0 1 = cc in omega arith)
read_two a b l [] true q (some xs) rest e = absurd (let z : ◌≡◌ {A = ℕ} 0 1 = cc in omega arith)
read_two a b l (x ∷ bs) true q (some xs) rest e =
    let va : digit_value a < 16 = ltb-true (digit_value a) 16 (and_l (ltb (digit_value a) 16) (ltb (digit_value b) 16) q) in
    let vb : digit_value b < 16 = ltb-true (digit_value b) 16 (and_r (ltb (digit_value a) 16) (ltb (digit_value b) 16) q) in
    let front : digit_value a * 16 + digit_value b ≡ x = cc in
    let behind : some xs ≡ some bs = cc in
    let high : x / 16 ≡ digit_value a = omega arith in
    let low : x % 16 ≡ digit_value b = omega arith in
    let r = rest bs behind in
    (rw (high, low, digit_was a va, digit_was b vb, r.0) refl, (omega arith, r.1))

pub hex_was : (s bs : List ℕ) → bytes_from s ≡ some bs → (hex_of bs ≡ s) × Bytes bs
hex_was [] [] e = (refl, tt)
hex_was [] (b ∷ bs) e = absurd (let z : ◌≡◌ {A = ℕ} 0 1 = cc in omega arith)
hex_was (a ∷ []) bs e = absurd (let z : ◌≡◌ {A = ℕ} 0 1 = cc in omega arith)
hex_was (a ∷ b ∷ l) bs e = read_two a b l bs (ltb (digit_value a) 16 && ltb (digit_value b) 16) refl (bytes_from l) (λ xs f. hex_was l xs f) e

pub length_hex : (bs : List ℕ) → length (hex_of bs) ≡ 2 * length bs
length_hex [] = refl
length_hex (b ∷ l) = omega (arith, length_hex l)

-- ---- a line

-- what a line is, once read
pub record LineIs (l bs : List ℕ) : Type 0 where
  pub digits : hex_of bs ≡ l
  pub bytes : Bytes bs
  pub least : 1 ≤ length bs
  pub most : length bs ≤ 8192

pub line_back : (l bs : List ℕ) → LineIs l bs → line_bytes l ≡ some bs
unfolding line_bytes
line_back l [] i = absurd (omega arith)
line_back l (b ∷ bs) i =
    let short : length (hex_of (b ∷ bs)) ≤ longest_line = omega (arith, length_hex (b ∷ bs)) in
    rw (← i.digits, le-ltb longest_line (length (hex_of (b ∷ bs))) short) (hex_back (b ∷ bs) i.bytes)

pub line_was : (l bs : List ℕ) → line_bytes l ≡ some bs → LineIs l bs
unfolding line_bytes
line_was [] bs e = absurd (let z : ◌≡◌ {A = ℕ} 0 1 = cc in omega arith)
line_was (a ∷ l) bs e = go (ltb longest_line (length (a ∷ l))) refl e
  where
    go : (t : Bool) → ltb longest_line (length (a ∷ l)) ≡ t → cond t none (bytes_from (a ∷ l)) ≡ some bs → LineIs (a ∷ l) bs
    go true q f = absurd (let z : ◌≡◌ {A = ℕ} 0 1 = cc in omega arith)
    go false q f =
        let w = hex_was (a ∷ l) bs f in
        let short : length (a ∷ l) ≤ longest_line = ltb-false longest_line (length (a ∷ l)) q in
        let long : length (hex_of bs) ≡ length (a ∷ l) = ap length w.0 in
        record { digits = w.0; bytes = w.1; least = omega (arith, length_hex bs); most = omega (arith, length_hex bs) }
