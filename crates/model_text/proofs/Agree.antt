-- The two definitions of UTF-8 agree: `agree`. Assumes nothing.
use mathlib.Core.Path.{◌≡◌, refl, sym, ap, ap₂, ◌∙◌}
use mathlib.Core.Bool.{Bool, true, not, ◌&&◌}
use mathlib.Core.List.{List, [], ◌∷◌, ◌++◌}
use mathlib.Core.Logic.{◌↔◌}
use Prim.Native.Nat.{ℕ, zero, suc, ◌+◌, ◌-◌, ◌*◌, ◌/◌, ◌%◌, ◌≤◌, ◌<◌}
use native.Mathlib.Omega.{arith}
use native.Mathlib.Nat.{mod-lt, div-add-mod'}
use native.Mathlib.Decide.{dec_le}
use borrow.Author.Tests.{le-leb, lt-leb, leb-true}
use lib.Arith.{digits_div, digits_mod}
use lib.Dec.{leb, lit<}
use lib.ListN.{drop}
use lib.Seq.{drop-nil}
use Rattle.model_text.specs.Utf8.{is_surrogate, is_scalar, encode_scalar, encode_all, AllScalar, IsUtf8, lead_length, own_bits, is_tail, fitting, least, well_formed, utf8_from, utf8}
use Rattle.model_text.proofs.Tables.{lead_one, lead_none, lead_two, lead_three, lead_four, lead_high, formed_two, formed_three, formed_four}
use Rattle.model_text.proofs.Formed.{and_l, and_r, Formed, formed, formed_one}

-- ---- the tests, as facts

pub tail_is : (x : ℕ) → true ≡ is_tail (0x80 + x % 64)
unfolding is_tail
tail_is x = sym (simp (le-leb 0x80 (0x80 + x % 64) (omega arith), le-leb (0x80 + x % 64) 0xBF (omega arith)))

pub tail_bounds : (b : ℕ) → is_tail b ≡ true → (0x80 ≤ b) × (b ≤ 0xBF)
unfolding is_tail
tail_bounds b e = (leb-true 0x80 b (and_l (leb 0x80 b) (leb b 0xBF) e), leb-true b 0xBF (and_r (leb 0x80 b) (leb b 0xBF) e))

scalar_low : (c : ℕ) → c ≤ 0x7F → is_scalar c ≡ true
unfolding is_scalar is_surrogate
scalar_low c h = simp (le-leb c 0x10FFFF (omega arith), lt-leb 0xD800 c (omega arith))

scalar_max : (c : ℕ) → is_scalar c ≡ true → c ≤ 0x10FFFF
unfolding is_scalar
scalar_max c e = leb-true c 0x10FFFF (and_l (leb c 0x10FFFF) (not (is_surrogate c)) e)

-- ---- the encoding's four rows

module _ (c : ℕ) where
  encode_one : c ≤ 0x7F → encode_scalar c ≡ c ∷ []
  unfolding encode_scalar
  encode_one h = simp (le-leb c 0x7F h)

  encode_two : 0x7F < c → c ≤ 0x7FF → encode_scalar c ≡ (0xC0 + c / 64) ∷ (0x80 + c % 64) ∷ []
  unfolding encode_scalar
  encode_two l h = simp (lt-leb c 0x7F l, le-leb c 0x7FF h)

  encode_three : 0x7FF < c → c ≤ 0xFFFF → encode_scalar c ≡ (0xE0 + c / 64 / 64) ∷ (0x80 + c / 64 % 64) ∷ (0x80 + c % 64) ∷ []
  unfolding encode_scalar
  encode_three l h = simp (lt-leb c 0x7F (omega arith), lt-leb c 0x7FF l, le-leb c 0xFFFF h)

  encode_four : 0xFFFF < c → encode_scalar c ≡ (0xF0 + c / 64 / 64 / 64) ∷ (0x80 + c / 64 / 64 % 64) ∷ (0x80 + c / 64 % 64) ∷ (0x80 + c % 64) ∷ []
  unfolding encode_scalar
  encode_four l = simp (lt-leb c 0x7F (omega arith), lt-leb c 0x7FF (omega arith), lt-leb c 0xFFFF l)

-- ---- what is encoded is read

taken : (n a : ℕ) (l : List ℕ) → lead_length a ≡ n → true ≡ well_formed n a l → utf8_from 0 (a ∷ l) ≡ utf8_from (n - 1) l
taken n a l e w =
    ap (λ (m : ℕ). well_formed m a l && utf8_from (m - 1) l) e
    ∙ ap (λ (t : Bool). t && utf8_from (n - 1) l) (sym w)

-- ASCII stands for itself
pub ascii_first : (b : ℕ) (l : List ℕ) → b ≤ 0x7F → utf8_from 0 (b ∷ l) ≡ utf8_from 0 l
ascii_first b l h = taken 1 b l (lead_one b h) (sym (formed_one b l))

fits_from : (n c : ℕ) → least n ≤ c → is_scalar c ≡ true → true ≡ fitting n c
unfolding fitting
fits_from n c h e = sym (ap₂ ◌&&◌ (le-leb (least n) c h) e)

fits_is : (n c : ℕ) → fitting n c ≡ true → (least n ≤ c) × (is_scalar c ≡ true)
unfolding fitting
fits_is n c e = (leb-true (least n) c (and_l (leb (least n) c) (is_scalar c) e), and_r (leb (least n) c) (is_scalar c) e)

-- four bytes' bits are c again (omega does two and three by itself)
rejoined : (c : ℕ) → c ≤ 0x10FFFF
    → c ≡ (((0xF0 + c / 64 / 64 / 64) % 8 * 64 + (0x80 + c / 64 / 64 % 64) % 64) * 64 + (0x80 + c / 64 % 64) % 64) * 64 + (0x80 + c % 64) % 64
rejoined c h =
    let p : ℕ = c / 64 in
    let q : ℕ = p / 64 in
    let r : ℕ = q / 64 in
    let low : (x : ℕ) → (0x80 + x % 64) % 64 ≡ x % 64 = λ x. omega arith in
    let top : (0xF0 + r) % 8 ≡ r = omega arith in
    sym
    ((λ i. ((top i * 64 + low q i) * 64 + low p i) * 64 + low c i)
    ∙ (λ i. (div-add-mod' q 64 i * 64 + p % 64) * 64 + c % 64)
    ∙ (λ i. div-add-mod' p 64 i * 64 + c % 64)
    ∙ div-add-mod' c 64)

module _ (c : ℕ) (s : is_scalar c ≡ true) (l : List ℕ) where
  read_two : 0x7F < c → c ≤ 0x7FF → utf8_from 0 ((0xC0 + c / 64) ∷ (0x80 + c % 64) ∷ l) ≡ utf8_from 0 l
  unfolding least
  read_two g h =
      let a : ℕ = 0xC0 + c / 64 in
      let b : ℕ = 0x80 + c % 64 in
      taken 2 a (b ∷ l) (lead_two a (omega arith) (omega arith)) (formed_two a b (tail_is c) {n = c} (omega arith) (fits_from 2 c (omega arith) s) l)

  read_three : 0x7FF < c → c ≤ 0xFFFF → utf8_from 0 ((0xE0 + c / 64 / 64) ∷ (0x80 + c / 64 % 64) ∷ (0x80 + c % 64) ∷ l) ≡ utf8_from 0 l
  unfolding least
  read_three g h =
      let a : ℕ = 0xE0 + c / 64 / 64 in
      let b : ℕ = 0x80 + c / 64 % 64 in
      let d : ℕ = 0x80 + c % 64 in
      taken 3 a (b ∷ d ∷ l) (lead_three a (omega arith) (omega arith))
      (formed_three a b (tail_is (c / 64)) d (tail_is c) {n = c} (omega arith) (fits_from 3 c (omega arith) s) l)

  read_four : 0xFFFF < c → c ≤ 0x10FFFF
      → utf8_from 0 ((0xF0 + c / 64 / 64 / 64) ∷ (0x80 + c / 64 / 64 % 64) ∷ (0x80 + c / 64 % 64) ∷ (0x80 + c % 64) ∷ l) ≡ utf8_from 0 l
  unfolding least
  read_four g h =
      let a : ℕ = 0xF0 + c / 64 / 64 / 64 in
      let b : ℕ = 0x80 + c / 64 / 64 % 64 in
      let d : ℕ = 0x80 + c / 64 % 64 in
      let f : ℕ = 0x80 + c % 64 in
      taken 4 a (b ∷ d ∷ f ∷ l) (lead_four a (omega arith) (omega arith))
      (formed_four a b (tail_is (c / 64 / 64)) d (tail_is (c / 64)) f (tail_is c) {n = c} (rejoined c h) (fits_from 4 c (omega arith) s) l)

read : (c : ℕ) → is_scalar c ≡ true → (l : List ℕ) → utf8_from 0 (encode_scalar c ++ l) ≡ utf8_from 0 l
read c s l =
    elim (dec_le c 0x7F) [
      | yes h ↦ rw (encode_one c h) (ascii_first c l h)
      | no g ↦ elim (dec_le c 0x7FF) [
        | yes h ↦ rw (encode_two c (omega arith) h) (read_two c s l (omega arith) h)
        | no g' ↦ elim (dec_le c 0xFFFF) [
          | yes h ↦ rw (encode_three c (omega arith) h) (read_three c s l (omega arith) h)
          | no g'' ↦ rw (encode_four c (omega arith)) (read_four c s l (omega arith) (scalar_max c s))
        ]
      ]
    ]

read_all : (cs : List ℕ) → AllScalar cs → utf8_from 0 (encode_all cs) ≡ true
read_all [] s = refl
read_all (c ∷ cs) s = read c s.0 (encode_all cs) ∙ read_all cs s.1

-- ---- what is read was encoded

over : (p d : ℕ) → (p * 64 + d % 64) / 64 ≡ p
over p d = digits_div p (mod-lt d (lit< tt))

under : (p d : ℕ) → is_tail d ≡ true → 0x80 + (p * 64 + d % 64) % 64 ≡ d
under p d e =
    let t = tail_bounds d e in
    let q : 0x80 + d % 64 ≡ d = omega arith in
    let m : (p * 64 + d % 64) % 64 ≡ d % 64 = digits_mod p (mod-lt d (lit< tt)) in
    ap (λ (x : ℕ). 0x80 + x) m ∙ q

-- a sequence of n bytes, a and the first of l, is the encoding of a scalar value
record Front (n a : ℕ) (l : List ℕ) : Type 0 where
  value : ℕ
  scalar : is_scalar value ≡ true
  spelt : encode_scalar value ++ drop (n - 1) l ≡ a ∷ l

front_one : (a : ℕ) (l : List ℕ) → a ≤ 0x7F → Front 1 a l
front_one a l h = record { value = a; scalar = scalar_low a h; spelt = rw (encode_one a h) }

front_two : (a : ℕ) (l : List ℕ) → 0xBF < a → a ≤ 0xDF → Formed 2 a l → Front 2 a l
unfolding least own_bits
front_two a [] g h f = absurd (let no : 1 ≤ 0 = f.long in omega arith)
front_two a (b ∷ l) g h f =
    let c : ℕ = a % 32 * 64 + b % 64 in
    let t = tail_bounds b (and_l (is_tail b) true f.tailed) in
    let fit : (least 2 ≤ c) × (is_scalar c ≡ true) = fits_is 2 c f.fits in
    let low : least 2 ≤ c = fit.0 in
    let e₀ : 0xC0 + c / 64 ≡ a = omega arith in
    let e₁ : 0x80 + c % 64 ≡ b = omega arith in
    record {
      value = c;
      scalar = fit.1;
      spelt = rw (encode_two c (omega arith) (omega arith)) (λ i. e₀ i ∷ e₁ i ∷ l);
    }

front_three : (a : ℕ) (l : List ℕ) → 0xDF < a → a ≤ 0xEF → Formed 3 a l → Front 3 a l
unfolding least own_bits
front_three a [] g h f = absurd (let no : 2 ≤ 0 = f.long in omega arith)
front_three a (b ∷ []) g h f = absurd (let no : 2 ≤ 1 = f.long in omega arith)
front_three a (b ∷ d ∷ l) g h f =
    let p : ℕ = a % 16 * 64 + b % 64 in
    let c : ℕ = p * 64 + d % 64 in
    let tb : is_tail b ≡ true = and_l (is_tail b) (is_tail d && true) f.tailed in
    let td : is_tail d ≡ true = and_l (is_tail d) true (and_r (is_tail b) (is_tail d && true) f.tailed) in
    let fit : (least 3 ≤ c) × (is_scalar c ≡ true) = fits_is 3 c f.fits in
    let low : least 3 ≤ c = fit.0 in
    let q : c / 64 ≡ p = over p d in
    let r : p / 64 ≡ a % 16 = over (a % 16) b in
    let top : 0xE0 + a % 16 ≡ a = omega arith in
    let e₀ : 0xE0 + c / 64 / 64 ≡ a = (λ i. 0xE0 + q i / 64) ∙ (λ i. 0xE0 + r i) ∙ top in
    let e₁ : 0x80 + c / 64 % 64 ≡ b = (λ i. 0x80 + q i % 64) ∙ under (a % 16) b tb in
    record {
      value = c;
      scalar = fit.1;
      spelt = rw (encode_three c (omega arith) (omega arith)) (λ i. e₀ i ∷ e₁ i ∷ under p d td i ∷ l);
    }

front_four : (a : ℕ) (l : List ℕ) → 0xEF < a → a ≤ 0xF7 → Formed 4 a l → Front 4 a l
unfolding least own_bits
front_four a [] g h f = absurd (let no : 3 ≤ 0 = f.long in omega arith)
front_four a (b ∷ []) g h f = absurd (let no : 3 ≤ 1 = f.long in omega arith)
front_four a (b ∷ d ∷ []) g h f = absurd (let no : 3 ≤ 2 = f.long in omega arith)
front_four a (b ∷ d ∷ k ∷ l) g h f =
    let o : ℕ = a % 8 * 64 + b % 64 in
    let p : ℕ = o * 64 + d % 64 in
    let c : ℕ = p * 64 + k % 64 in
    let v : Bool = is_tail k && true in
    let tb : is_tail b ≡ true = and_l (is_tail b) (is_tail d && v) f.tailed in
    let more : (is_tail d && v) ≡ true = and_r (is_tail b) (is_tail d && v) f.tailed in
    let td : is_tail d ≡ true = and_l (is_tail d) v more in
    let tk : is_tail k ≡ true = and_l (is_tail k) true (and_r (is_tail d) v more) in
    let fit : (least 4 ≤ c) × (is_scalar c ≡ true) = fits_is 4 c f.fits in
    let low : least 4 ≤ c = fit.0 in
    let q : c / 64 ≡ p = over p k in
    let r : c / 64 / 64 ≡ o = (λ i. q i / 64) ∙ over o d in
    let top : 0xF0 + a % 8 ≡ a = omega arith in
    let e₀ : 0xF0 + c / 64 / 64 / 64 ≡ a = (λ i. 0xF0 + r i / 64) ∙ (λ i. 0xF0 + over (a % 8) b i) ∙ top in
    let e₁ : 0x80 + c / 64 / 64 % 64 ≡ b = (λ i. 0x80 + r i % 64) ∙ under (a % 8) b tb in
    let e₂ : 0x80 + c / 64 % 64 ≡ d = (λ i. 0x80 + q i % 64) ∙ under o d td in
    record {
      value = c;
      scalar = fit.1;
      spelt = rw (encode_four c (omega arith)) (λ i. e₀ i ∷ e₁ i ∷ e₂ i ∷ under p k tk i ∷ l);
    }

at_length : {n : ℕ} (a : ℕ) (l : List ℕ) → lead_length a ≡ n → well_formed (lead_length a) a l ≡ true → (Formed n a l → Front n a l) → Front (lead_length a) a l
at_length {n} a l e w k = rw e (k (formed n a l (rw e at w)))

impossible : (a : ℕ) (l : List ℕ) → Formed 0 a l → Front 0 a l
impossible a l f = absurd (let no : 1 ≤ 0 = f.some in omega arith)

front : (a : ℕ) (l : List ℕ) → well_formed (lead_length a) a l ≡ true → Front (lead_length a) a l
front a l w =
    elim (dec_le a 0x7F) [
      | yes h ↦ at_length a l (lead_one a h) w (λ f. front_one a l h)
      | no g ↦ elim (dec_le a 0xBF) [
        | yes h ↦ at_length a l (lead_none a (omega arith) h) w (impossible a l)
        | no g₁ ↦ elim (dec_le a 0xDF) [
          | yes h ↦ at_length a l (lead_two a (omega arith) h) w (front_two a l (omega arith) h)
          | no g₂ ↦ elim (dec_le a 0xEF) [
            | yes h ↦ at_length a l (lead_three a (omega arith) h) w (front_three a l (omega arith) h)
            | no g₃ ↦ elim (dec_le a 0xF7) [
              | yes h ↦ at_length a l (lead_four a (omega arith) h) w (front_four a l (omega arith) h)
              | no g₄ ↦ at_length a l (lead_high a (omega arith)) w (impossible a l)
            ]
          ]
        ]
      ]
    ]

encoded : (k : ℕ) (l : List ℕ) → utf8_from k l ≡ true → IsUtf8 (drop k l)
encoded k [] e = record { values = []; scalar = tt; joined = sym (drop-nil k) }
encoded zero (a ∷ l) e =
    let n : ℕ = lead_length a in
    let f = front a l (and_l (well_formed n a l) (utf8_from (n - 1) l) e) in
    let r = encoded (n - 1) l (and_r (well_formed n a l) (utf8_from (n - 1) l) e) in
    record { values = f.value ∷ r.values; scalar = (f.scalar, r.scalar); joined = ap (λ (m : List ℕ). encode_scalar f.value ++ m) r.joined ∙ f.spelt }
encoded (suc k) (a ∷ l) e = encoded k l e

-- ---- both ways

-- utf8 s is true just where s is the encodings of scalar values, joined
pub agree : (s : List ℕ) → IsUtf8 s ↔ (utf8 s ≡ true)
unfolding utf8
agree s = ((λ r. ap (utf8_from 0) (sym r.joined) ∙ read_all r.values r.scalar), encoded 0 s)
