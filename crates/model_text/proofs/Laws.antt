-- What callers may use of stamps, marks and keys. Assumes nothing.
use mathlib.Core.Path.{◌≡◌, refl, sym, ap, ◌∙◌}
use mathlib.Core.Bool.{Bool, true, false, cond, ◌&&◌, ◌||◌, false≢true, or-false}
use mathlib.Core.Logic.{◌⊎◌, inl, inr}
use mathlib.Core.List.{List, [], ◌∷◌, ◌++◌}
use Prim.Native.Nat.{ℕ, zero, suc, ◌≤◌}
use native.Mathlib.Omega.{arith}
use borrow.Author.Tests.{le-leb, leb-true, eqb-true}
use lib.Dec.{leb, eqb}
use lib.ListN.{length}
use Rattle.model_text.specs.Utf8.{utf8}
use Rattle.model_text.specs.Printable.{is_printable_byte, all_printable, is_printable, is_marks, is_key}
use Rattle.model_text.specs.Stamp.{Pattern, digit, pair, mark, is_digit, is_pair, matches, date, clock, digits, fraction, has_digits, day_exists, is_short, is_stamp, takes_stamp, longest_stamp, longest_short}
use Rattle.model_text.specs.Version.{first, latest}
use Rattle.model_text.proofs.Formed.{and_l, and_r}
use Rattle.model_text.proofs.Agree.{ascii_first}
use Rattle.model_text.proofs.Form.{digit_bounds, pair_digits, size_of, fits_length, not_long}

-- ---- printable texts

pub plain_bounds : (b : ℕ) → is_printable_byte b ≡ true → (0x20 ≤ b) × (b ≤ 0x7E)
unfolding is_printable_byte
plain_bounds b e = (leb-true 0x20 b (and_l (leb 0x20 b) (leb b 0x7E) e), leb-true b 0x7E (and_r (leb 0x20 b) (leb b 0x7E) e))

pub plain_by : (b : ℕ) → 0x20 ≤ b → b ≤ 0x7E → is_printable_byte b ≡ true
unfolding is_printable_byte
plain_by b g h = simp (le-leb 0x20 b g, le-leb b 0x7E h)

-- printable ASCII is UTF-8
pub plain_utf8 : (s : List ℕ) → all_printable s ≡ true → utf8 s ≡ true
unfolding utf8
plain_utf8 [] e = refl
plain_utf8 (b ∷ l) e =
    let h = plain_bounds b (and_l (is_printable_byte b) (all_printable l) e) in
    ascii_first b l (omega arith) ∙ plain_utf8 l (and_r (is_printable_byte b) (all_printable l) e)

pub record PrintableIs (lo hi : ℕ) (s : List ℕ) : Type 0 where
  pub least : lo ≤ length s
  pub most : length s ≤ hi
  pub plain : all_printable s ≡ true
  pub coded : utf8 s ≡ true

pub printable_is : (lo hi : ℕ) (s : List ℕ) → is_printable lo hi s ≡ true → PrintableIs lo hi s
unfolding is_printable
printable_is lo hi s e =
    let r : (leb (length s) hi && all_printable s) ≡ true = and_r (leb lo (length s)) (leb (length s) hi && all_printable s) e in
    let p : all_printable s ≡ true = and_r (leb (length s) hi) (all_printable s) r in
    record {
      least = leb-true lo (length s) (and_l (leb lo (length s)) (leb (length s) hi && all_printable s) e);
      most = leb-true (length s) hi (and_l (leb (length s) hi) (all_printable s) r);
      plain = p;
      coded = plain_utf8 s p;
    }

pub marks_is : (s : List ℕ) → is_marks s ≡ true → PrintableIs 0 64 s
unfolding is_marks
marks_is s e = printable_is 0 64 s e

pub key_is : (a b c d : List ℕ) → is_key a b c d ≡ true → PrintableIs 1 32 a × PrintableIs 1 32 b × PrintableIs 1 32 c × PrintableIs 0 32 d
unfolding is_key
key_is a b c d e =
    let p : Bool = is_printable 1 32 a in
    let q : Bool = is_printable 1 32 b in
    let r : Bool = is_printable 1 32 c in
    let e₂ : (p && q && r) ≡ true = and_l (p && q && r) (is_printable 0 32 d) e in
    let e₁ : (p && q) ≡ true = and_l (p && q) r e₂ in
    (printable_is 1 32 a (and_l p q e₁), printable_is 1 32 b (and_r p q e₁), printable_is 1 32 c (and_r (p && q) r e₂), printable_is 0 32 d (and_r (p && q && r) (is_printable 0 32 d) e))

-- ---- stamps

-- the bytes that a form asks for are printable
abbrev plain_marks : List Pattern → Type 0
plain_marks [] = Unit {0}
plain_marks (digit ∷ ps) = plain_marks ps
plain_marks (pair lo hi ∷ ps) = plain_marks ps
plain_marks (mark m ∷ ps) = (is_printable_byte m ≡ true) × plain_marks ps

digit_plain : (b : ℕ) → is_digit b ≡ true → is_printable_byte b ≡ true
digit_plain b e = let h = digit_bounds b e in plain_by b (omega arith) (omega arith)

more : (b : ℕ) (l : List ℕ) → is_printable_byte b ≡ true → all_printable l ≡ true → all_printable (b ∷ l) ≡ true
more b l e r = ap (λ (t : Bool). t && all_printable l) e ∙ r

fits_plain : (ps : List Pattern) (s : List ℕ) → plain_marks ps → matches ps s ≡ true → all_printable s ≡ true
fits_plain [] [] m e = refl
fits_plain [] (b ∷ l) m e = absurd (false≢true e)
fits_plain (digit ∷ ps) [] m e = absurd (false≢true e)
fits_plain (digit ∷ ps) (b ∷ l) m e = more b l (digit_plain b (and_l (is_digit b) (matches ps l) e)) (fits_plain ps l m (and_r (is_digit b) (matches ps l) e))
fits_plain (pair lo hi ∷ ps) [] m e = absurd (false≢true e)
fits_plain (pair lo hi ∷ ps) (a ∷ []) m e = absurd (false≢true e)
fits_plain (pair lo hi ∷ ps) (a ∷ b ∷ l) m e =
    let d = pair_digits lo hi a b (and_l (is_pair lo hi a b) (matches ps l) e) in
    more a (b ∷ l) (digit_plain a d.0) (more b l (digit_plain b d.1) (fits_plain ps l m (and_r (is_pair lo hi a b) (matches ps l) e)))
fits_plain (mark k ∷ ps) [] m e = absurd (false≢true e)
fits_plain (mark k ∷ ps) (b ∷ l) m e =
    more b l (ap is_printable_byte (eqb-true b k (and_l (eqb b k) (matches ps l) e)) ∙ m.0) (fits_plain ps l m.1 (and_r (eqb b k) (matches ps l) e))

-- a form's marks are printable
form_plain : (n : ℕ) → plain_marks (date ++ clock ++ fraction n)
unfolding is_printable_byte
form_plain zero = (refl, (refl, (refl, tt)))
form_plain (suc n) = (refl, (refl, (refl, (refl, digits_plain n))))
  where
    digits_plain : (n : ℕ) → plain_marks (digits n)
    digits_plain zero = tt
    digits_plain (suc n) = digits_plain n

pub record StampIs (s : List ℕ) : Type 0 where
  pub least : 17 ≤ length s
  pub most : length s ≤ longest_stamp
  pub plain : all_printable s ≡ true
  pub coded : utf8 s ≡ true

stamp_by : (n : ℕ) (s : List ℕ) → size_of (date ++ clock ++ fraction n) ≤ longest_stamp → 17 ≤ size_of (date ++ clock ++ fraction n) → has_digits n s ≡ true → StampIs s
unfolding has_digits
stamp_by n s h g e =
    let p : all_printable s ≡ true = fits_plain (date ++ clock ++ fraction n) s (form_plain n) e in
    let l = fits_length (date ++ clock ++ fraction n) s e in
    record { least = omega arith; most = omega arith; plain = p; coded = plain_utf8 s p }

or_either : (a b : Bool) → (a || b) ≡ true → (a ≡ true) ⊎ (b ≡ true)
or_either true b e = inl refl
or_either false b e = inr e

or_left : (a b : Bool) → a ≡ true → (a || b) ≡ true
or_left a b e = ap (λ (t : Bool). t || b) e

pub stamp_is : (s : List ℕ) → is_stamp s ≡ true → StampIs s
unfolding is_stamp
stamp_is s e =
    let form : Bool = has_digits 0 s || has_digits 3 s || has_digits 6 s || has_digits 9 s || has_digits 12 s in
    elim (or_either (has_digits 0 s || has_digits 3 s || has_digits 6 s || has_digits 9 s) (has_digits 12 s) (and_l form (day_exists s) e)) [
      | inr q ↦ stamp_by 12 s (omega arith) (omega arith) q
      | inl q ↦ elim (or_either (has_digits 0 s || has_digits 3 s || has_digits 6 s) (has_digits 9 s) q) [
        | inr q ↦ stamp_by 9 s (omega arith) (omega arith) q
        | inl q ↦ elim (or_either (has_digits 0 s || has_digits 3 s) (has_digits 6 s) q) [
          | inr q ↦ stamp_by 6 s (omega arith) (omega arith) q
          | inl q ↦ elim (or_either (has_digits 0 s) (has_digits 3 s) q) [
            | inr q ↦ stamp_by 3 s (omega arith) (omega arith) q
            | inl q ↦ stamp_by 0 s (omega arith) (omega arith) q
          ]
        ]
      ]
    ]

no_form : (n : ℕ) (s : List ℕ) → (length s ≡ size_of (date ++ clock ++ fraction n) → ⊥) → has_digits n s ≡ false
unfolding has_digits
no_form n s h = not_long (date ++ clock ++ fraction n) s h

-- what every version takes, the store keeps
pub short_keeps : (s : List ℕ) → is_short s ≡ true → is_stamp s ≡ true
unfolding is_short is_stamp
short_keeps s e =
    let q : (has_digits 0 s || has_digits 3 s) ≡ true = and_l (has_digits 0 s || has_digits 3 s) (day_exists s) e in
    let d : day_exists s ≡ true = and_r (has_digits 0 s || has_digits 3 s) (day_exists s) e in
    (λ i. or_left _ (has_digits 12 s) (or_left _ (has_digits 9 s) (or_left _ (has_digits 6 s) q)) i && d i)

-- and a stamp that isn't longer is a short one
pub short_by : (s : List ℕ) → is_stamp s ≡ true → length s ≤ longest_short → is_short s ≡ true
unfolding is_short is_stamp
short_by s e h =
    (λ i. (sym (or-false (has_digits 0 s || has_digits 3 s)) ∙ (λ j. (has_digits 0 s || has_digits 3 s) || sym (never 6 (omega arith)) j)
    ∙ sym (or-false (has_digits 0 s || has_digits 3 s || has_digits 6 s)) ∙ (λ j. (has_digits 0 s || has_digits 3 s || has_digits 6 s) || sym (never 9 (omega arith)) j)
    ∙ sym (or-false (has_digits 0 s || has_digits 3 s || has_digits 6 s || has_digits 9 s)) ∙ (λ j. (has_digits 0 s || has_digits 3 s || has_digits 6 s || has_digits 9 s) || sym (never 12 (omega arith)) j)) i && day_exists s) ∙ e
  where
    never : (n : ℕ) → suc longest_short ≤ size_of (date ++ clock ++ fraction n) → has_digits n s ≡ false
    never n l = no_form n s (λ q. omega arith)

-- a short stamp is at most as long as the longest
pub short_most : (s : List ℕ) → is_short s ≡ true → length s ≤ longest_short
unfolding is_short has_digits
short_most s e =
    elim (or_either (has_digits 0 s) (has_digits 3 s) (and_l (has_digits 0 s || has_digits 3 s) (day_exists s) e)) [
      | inl q ↦ form_length 0 q (omega arith)
      | inr q ↦ form_length 3 q (omega arith)
    ]
  where
    form_length : (n : ℕ) → has_digits n s ≡ true → size_of (date ++ clock ++ fraction n) ≤ longest_short → length s ≤ longest_short
    form_length n q h = let l = fits_length (date ++ clock ++ fraction n) s q in omega arith

-- what reading takes, in whatever version, the store keeps
pub takes_keeps : (version : ℕ) (s : List ℕ) → takes_stamp version s ≡ true → is_stamp s ≡ true
unfolding takes_stamp
takes_keeps version s = go (eqb version latest)
  where
    go : (b : Bool) → cond b (is_stamp s) (is_short s) ≡ true → is_stamp s ≡ true
    go true e = e
    go false e = short_keeps s e

-- and the latest version takes it
pub takes_latest : (version : ℕ) (s : List ℕ) → takes_stamp version s ≡ true → takes_stamp latest s ≡ true
unfolding takes_stamp
takes_latest version s e = takes_keeps version s e

pub latest_takes : (s : List ℕ) → is_stamp s ≡ true → takes_stamp latest s ≡ true
unfolding takes_stamp
latest_takes s e = e

-- the first takes those that aren't long
pub first_takes : (s : List ℕ) → is_stamp s ≡ true → length s ≤ longest_short → takes_stamp first s ≡ true
unfolding takes_stamp
first_takes s e h = short_by s e h

pub first_most : (s : List ℕ) → takes_stamp first s ≡ true → length s ≤ longest_short
unfolding takes_stamp
first_most s e = short_most s e

pub takes_is : (version : ℕ) (s : List ℕ) → takes_stamp version s ≡ true → StampIs s
takes_is version s e = stamp_is s (takes_keeps version s e)
