-- The digits' rules, the two loops' invariants, and what a turn of each does. Assumes nothing.
use mathlib.Core.Path.{◌≡◌, refl, sym, ap, subst, ◌∙◌}
use mathlib.Core.Bool.{Bool, true, false, cond, ◌&&◌, or-true}
use mathlib.Core.List.{List, [], ◌∷◌, ◌++◌, append-nil}
use mathlib.Core.Option.{Option, none, some}
use Prim.Native.Nat.{ℕ, ◌+◌, ◌*◌, ◌/◌, ◌%◌, ◌<◌, ◌≤◌}
use native.Mathlib.Omega.{arith}
use native.Mathlib.Numerals.{add-one}
use lib.ListN.{length, get_or, set, take, drop, length-set, length-append, take-append-drop}
use lib.Seq.{take-suc, take-suc-set, append_snoc, length-take-le, sets, sets-eq, take_at, drop_at, drop-drop, take-length}
use lib.Dec.{ltb, eqb}
use borrow.Author.Tests.{lt-ltb, le-ltb, eqb-true, eqb-false}
use Rattle.model_text.proofs.HexBack.{length_hex}
use Rattle.model_text.specs.Hex.{digit_value, byte_then, bytes_from, longest_line, line_bytes, digit_of, hex_of, decimal, refusal_text}
use Rattle.std.specs.Prelude as std
use Rattle.std.specs.Prelude.{Some, None}
use Rattle.std.specs.Bool.{then_some}
use Rattle.base_hex.specs.Lines.{ReadsLine, WroteFront, Puts}

-- ---- reading

-- bytes, and those that are still read
abbrev pub behind : List ℕ → Option (List ℕ) → Option (List ℕ)
behind xs none = none
behind xs (some ys) = some (xs ++ ys)

behind_onto : (xs : List ℕ) (x : ℕ) (r : Option (List ℕ)) → behind xs (byte_then x r) ≡ behind (xs ++ (x ∷ [])) r
behind_onto xs x none = refl
behind_onto xs x (some ys) = ap some (sym (append_snoc xs x ys))

behind_nothing : (r : Option (List ℕ)) → behind [] r ≡ r
behind_nothing none = refl
behind_nothing (some ys) = refl

alone : (l : List ℕ) → length l ≡ 1 → bytes_from l ≡ none
alone [] e = absurd (omega arith)
alone (a ∷ []) e = refl
alone (a ∷ b ∷ l) e = absurd (omega arith)

nothing : (l : List ℕ) → length l ≡ 0 → bytes_from l ≡ some []
nothing [] e = refl
nothing (a ∷ l) e = absurd (omega arith)

-- two digits, and what stands behind them
pair_then : (p rest : List ℕ) → length p ≡ 2
    → bytes_from (p ++ rest) ≡ cond (ltb (digit_value (get_or p 0 0)) 16 && ltb (digit_value (get_or p 1 0)) 16) (byte_then (digit_value (get_or p 0 0) * 16 + digit_value (get_or p 1 0)) (bytes_from rest)) none
pair_then [] rest e = absurd (omega arith)
pair_then (a ∷ []) rest e = absurd (omega arith)
pair_then (a ∷ b ∷ []) rest e = refl
pair_then (a ∷ b ∷ c ∷ p) rest e = absurd (omega arith)

-- what is left gives what the whole gives
pub record Reading (size : ℕ) (line out : List ℕ) (i : ℕ) (rest : List ℕ) : Type 0 where
  pub same : length out ≡ size
  pub left : bytes_from line ≡ behind (take i out) (bytes_from rest)
  pub long : 2 * i + length rest ≡ length line

pub reading : (line out : List ℕ) → Reading (length out) line out 0 line
reading line out = record { same = refl; left = sym (behind_nothing (bytes_from line)); long = omega arith }

module _ (size : ℕ) (line out : List ℕ) (i : ℕ) (rest : List ℕ) (g : Reading size line out i rest) where
  -- two digits are taken
  module _ (p next : List ℕ) (e : rest ≡ p ++ next) (two : length p ≡ 2) where
    a : ℕ
    a = digit_value (get_or p 0 0)

    b : ℕ
    b = digit_value (get_or p 1 0)

    tested : {v : Bool} → (ltb a 16 && ltb b 16) ≡ v → bytes_from rest ≡ cond v (byte_then (a * 16 + b) (bytes_from next)) none
    unfolding a b
    tested q = ap bytes_from e ∙ pair_then p next two ∙ ap (λ (t : Bool). cond t (byte_then (a * 16 + b) (bytes_from next)) none) q

    pub reads_on : length line ≤ 2 * size → (ltb (digit_value (get_or p 0 0)) 16 && ltb (digit_value (get_or p 1 0)) 16) ≡ true → (v : ℕ) → v ≡ digit_value (get_or p 0 0) * 16 + digit_value (get_or p 1 0)
        → Reading size line (set out i v) (i + 1) next
    unfolding a b
    reads_on room q v ev =
        let inside : i < length out = omega (arith, g.same, g.long, ap length e, length-append p next) in
        record {
          same = length-set out i v ∙ g.same;
          left =
              g.left ∙ ap (behind (take i out)) (tested q)
              ∙ behind_onto (take i out) (a * 16 + b) (bytes_from next)
              ∙ ap (λ (k : ℕ). behind (take i out ++ (k ∷ [])) (bytes_from next)) (sym ev)
              ∙ ap (λ (l : List ℕ). behind l (bytes_from next)) (sym (rw add-one (take-suc-set out i v inside)));
          long = omega (arith, g.long, ap length e, length-append p next);
        }

    pub reads_off : (ltb (digit_value (get_or p 0 0)) 16 && ltb (digit_value (get_or p 1 0)) 16) ≡ false → ReadsLine (bytes_from line) out None
    unfolding a b
    reads_off q = record { bytes = sym (g.left ∙ ap (behind (take i out)) (tested q)); within = omega arith }

  -- nothing is left, or one digit
  module _ (few : length rest < 2) where
    reads_odd : (2 * (length line / 2) ≡ length line → ⊥) → ReadsLine (bytes_from line) out None
    reads_odd odd =
        let one : length rest ≡ 1 = omega (arith, g.long) in
        record { bytes = sym (g.left ∙ ap (behind (take i out)) (alone rest one)); within = omega arith }

    reads_all : length line ≤ 2 * size → 2 * (length line / 2) ≡ length line → ReadsLine (bytes_from line) out (Some (length line / 2))
    reads_all room even =
        let none_left : length rest ≡ 0 = omega (arith, g.long) in
        let half : i ≡ length line / 2 = omega (arith, g.long) in
        record {
          bytes = sym (g.left ∙ ap (behind (take i out)) (nothing rest none_left) ∙ ap some (append-nil (take i out) ∙ ap (λ (k : ℕ). take k out) half));
          within = omega (arith, g.same);
        }

    pub reads_end : length line ≤ 2 * size → {r : std.Option ℕ} → r ≡ then_some (eqb (2 * (length line / 2)) (length line)) (length line / 2) → ReadsLine (bytes_from line) out r
    reads_end room {r} e = subst (ReadsLine (bytes_from line) out) (sym e) (go (eqb (2 * (length line / 2)) (length line)) refl)
      where
        go : (t : Bool) → eqb (2 * (length line / 2)) (length line) ≡ t → ReadsLine (bytes_from line) out (then_some (eqb (2 * (length line / 2)) (length line)) (length line / 2))
        go true q = rw q (reads_all room (eqb-true _ _ q))
        go false q = rw q (reads_odd (eqb-false _ _ q))

-- ---- a line

pub blank_line : (l out : List ℕ) → length l ≡ 0 → ReadsLine (line_bytes l) out None
unfolding line_bytes
blank_line [] out e = record { bytes = refl; within = omega arith }
blank_line (b ∷ l) out e = absurd (omega arith)

pub long_line : (l out : List ℕ) → longest_line < length l → ReadsLine (line_bytes l) out None
unfolding line_bytes
long_line l out h = record { bytes = simp (lt-ltb longest_line (length l) h, or-true); within = omega arith }

pub some_line : (l out : List ℕ) (r : std.Option ℕ) → (length l ≡ 0 → ⊥) → length l ≤ longest_line → ReadsLine (bytes_from l) out r → ReadsLine (line_bytes l) out r
unfolding line_bytes
some_line [] out r e h g = absurd (e refl)
some_line (b ∷ l) out r e h g = rw (le-ltb longest_line (length (b ∷ l)) h) g

-- ---- writing

hex_append : (xs ys : List ℕ) → hex_of (xs ++ ys) ≡ hex_of xs ++ hex_of ys
hex_append [] ys = refl
hex_append (x ∷ xs) ys = ap (λ (l : List ℕ). digit_of (x / 16) ∷ digit_of (x % 16) ∷ l) (hex_append xs ys)

-- the digits of the first i bytes stand at the start, and the rest is as it was
pub record Writing (src before out : List ℕ) (i : ℕ) : Type 0 where
  pub same : length out ≡ length before
  pub front : take (2 * i) out ≡ hex_of (take i src)
  pub rest : drop (2 * i) out ≡ drop (2 * i) before

pub writing : (src before : List ℕ) → Writing src before before 0
writing src before = record { same = refl; front = refl; rest = refl }

module _ (src before out : List ℕ) (i : ℕ) (g : Writing src before out i) (room : 2 * length src ≤ length before) where
  pub writes_on : i < length src → {x y : ℕ} → x ≡ digit_of (get_or src i 0 / 16) → y ≡ digit_of (get_or src i 0 % 16) → Writing src before (set (set out (2 * i) x) (2 * i + 1) y) (i + 1)
  writes_on less {x} {y} ex ey =
      let fits : 2 * i + 2 ≤ length out = omega (arith, g.same) in
      let stored : set (set out (2 * i) x) (2 * i + 1) y ≡ take (2 * i) out ++ (x ∷ y ∷ []) ++ drop (2 * i + 2) out = rw add-one (sets-eq (x ∷ y ∷ []) out (2 * i) fits) in
      let next : 2 * (i + 1) ≡ 2 * i + 2 = omega arith in
      let head : length (take (2 * i) out ++ (x ∷ y ∷ [])) ≡ 2 * i + 2 = length-append (take (2 * i) out) (x ∷ y ∷ []) ∙ ap (λ (k : ℕ). k + 2) (length-take-le (2 * i) out (omega arith)) in
      record {
        same = length-set (set out (2 * i) x) (2 * i + 1) y ∙ length-set out (2 * i) x ∙ g.same;
        front =
            rw (next, stored, take_at (take (2 * i) out ++ (x ∷ y ∷ [])) (drop (2 * i + 2) out) (2 * i + 2) head, add-one i, take-suc src i 0 less, hex_append (take i src) (get_or src i 0 ∷ []), g.front, ex, ey)
            refl;
        rest =
            rw (next, stored, drop_at (take (2 * i) out ++ (x ∷ y ∷ [])) (drop (2 * i + 2) out) (2 * i + 2) head, ← (drop-drop 2 (2 * i) out), g.rest, drop-drop 2 (2 * i) before)
            refl;
      }

  pub writes_all : length src ≡ i → WroteFront (hex_of src) before out
  writes_all end =
      let at : i ≡ length src = omega arith in
      let digits : length (hex_of src) ≡ 2 * i = length_hex src ∙ ap (λ (k : ℕ). 2 * k) (sym at) in
      sym (take-append-drop (2 * i) out) ∙ (λ j. g.front j ++ g.rest j)
      ∙ (λ j. hex_of (take (at j) src) ++ drop (sym digits j) before) ∙ ap (λ (l : List ℕ). hex_of l ++ drop (length (hex_of src)) before) (take-length src)

-- ---- a refusal

stored : (bs out : List ℕ) → length bs ≤ length out → Puts bs out (sets out 0 bs) (length bs)
stored bs out h =
    let z : 0 + length bs ≡ length bs = omega arith in
    record { count = refl; wrote = rw z at (sets-eq bs out 0 (omega arith)) }

pub one_digit : (n : ℕ) (out : List ℕ) → 4 ≤ length out → n < 10 → Puts (refusal_text n) out (set (set (set out 0 82) 1 32) 2 (48 + n)) 3
unfolding refusal_text decimal
one_digit n out room h = rw (lt-ltb n 10 h) (stored (82 ∷ 32 ∷ (48 + n) ∷ []) out (omega arith))

pub two_digits : (n : ℕ) (out : List ℕ) → 4 ≤ length out → 10 ≤ n → Puts (refusal_text n) out (set (set (set (set out 0 82) 1 32) 2 (48 + n / 10)) 3 (48 + n % 10)) 4
unfolding refusal_text decimal
two_digits n out room h = rw (le-ltb n 10 h) (stored (82 ∷ 32 ∷ (48 + n / 10) ∷ (48 + n % 10) ∷ []) out (omega arith))
