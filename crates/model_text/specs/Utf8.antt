-- UTF-8 by RFC 3629. First the encoding, written from the table of section 3:
--     0000 0000 to 0000 007F   0xxxxxxx
--     0000 0080 to 0000 07FF   110xxxxx 10xxxxxx
--     0000 0800 to 0000 FFFF   1110xxxx 10xxxxxx 10xxxxxx, without D800 to DFFF
--     0001 0000 to 0010 FFFF   11110xxx 10xxxxxx 10xxxxxx 10xxxxxx
-- Then a test that computes. `proofs/Agree.antt` shows that they agree. Assumes nothing.
use Rattle.std.specs.Prelude.{◌≡◌, Bool, true, false, cond, not, ◌&&◌, List, [], ◌∷◌, ◌++◌, ℕ, zero, suc, ◌+◌, ◌-◌, ◌*◌, ◌/◌, ◌%◌, leb, eqb}

-- ---- the encoding

unfoldable pub is_surrogate : ℕ → Bool
is_surrogate c = leb 0xD800 c && leb c 0xDFFF

-- a scalar value: a code point that is no surrogate
unfoldable pub is_scalar : ℕ → Bool
is_scalar c = leb c 0x10FFFF && not (is_surrogate c)

unfoldable pub encode_scalar : ℕ → List ℕ
encode_scalar c =
    cond (leb c 0x7F) (c ∷ [])
    (cond (leb c 0x7FF) ((0xC0 + c / 64) ∷ (0x80 + c % 64) ∷ [])
    (cond (leb c 0xFFFF) ((0xE0 + c / 64 / 64) ∷ (0x80 + c / 64 % 64) ∷ (0x80 + c % 64) ∷ [])
    ((0xF0 + c / 64 / 64 / 64) ∷ (0x80 + c / 64 / 64 % 64) ∷ (0x80 + c / 64 % 64) ∷ (0x80 + c % 64) ∷ [])))

abbrev pub encode_all : List ℕ → List ℕ
encode_all [] = []
encode_all (c ∷ cs) = encode_scalar c ++ encode_all cs

abbrev pub AllScalar : List ℕ → Type 0
AllScalar [] = Unit {0}
AllScalar (c ∷ cs) = (is_scalar c ≡ true) × AllScalar cs

-- these bytes are the encodings of scalar values, joined
pub record IsUtf8 (bytes : List ℕ) : Type 0 where
  pub values : List ℕ
  pub scalar : AllScalar values
  pub joined : encode_all values ≡ bytes

-- ---- the test

-- how many bytes a sequence has that begins with a; 0: none begins so
unfoldable pub lead_length : ℕ → ℕ
lead_length a =
    cond (leb a 0x7F) 1
    (cond (leb a 0xBF) 0
    (cond (leb a 0xDF) 2
    (cond (leb a 0xEF) 3
    (cond (leb a 0xF7) 4 0))))

-- the first byte's own bits, of a sequence of n bytes
unfoldable pub own_bits : ℕ → ℕ → ℕ
own_bits n a = cond (eqb n 1) (a % 128) (cond (eqb n 2) (a % 32) (cond (eqb n 3) (a % 16) (a % 8)))

-- the least code point that needs n bytes
unfoldable pub least : ℕ → ℕ
least n = cond (eqb n 1) 0 (cond (eqb n 2) 0x80 (cond (eqb n 3) 0x800 0x10000))

-- not overlong, no surrogate, not above 10FFFF
unfoldable pub fitting : ℕ → ℕ → Bool
fitting n c = leb (least n) c && is_scalar c

unfoldable pub is_tail : ℕ → Bool
is_tail b = leb 0x80 b && leb b 0xBF

-- k bytes of the form 10xxxxxx stand at the front
abbrev pub tails : ℕ → List ℕ → Bool
tails zero l = true
tails (suc k) [] = false
tails (suc k) (b ∷ l) = is_tail b && tails k l

-- the low six bits of the k first bytes, behind c
abbrev pub joined_to : ℕ → ℕ → List ℕ → ℕ
joined_to c zero l = c
joined_to c (suc k) [] = c
joined_to c (suc k) (b ∷ l) = joined_to (c * 64 + b % 64) k l

-- a begins a sequence of n bytes that l goes on with
unfoldable pub well_formed : ℕ → ℕ → List ℕ → Bool
well_formed n a l = leb 1 n && (tails (n - 1) l && fitting n (joined_to (own_bits n a) (n - 1) l))

-- past k bytes, which are those of a sequence that was tested, the rest is well formed
abbrev pub utf8_from : ℕ → List ℕ → Bool
utf8_from k [] = true
utf8_from zero (a ∷ l) = well_formed (lead_length a) a l && utf8_from (lead_length a - 1) l
utf8_from (suc k) (a ∷ l) = utf8_from k l

unfoldable pub utf8 : List ℕ → Bool
utf8 l = utf8_from 0 l
