-- The points that tell readings apart, by computing the definitions: tables, and one equation over each. Assumes nothing.
use mathlib.Core.Path.{◌≡◌, refl}
use mathlib.Core.Bool.{Bool, true, false, cond}
use mathlib.Core.List.{List, [], ◌∷◌, map, ◌++◌}
use mathlib.Core.Option.{Option, none, some}
use Prim.Native.Nat.{ℕ, ◌/◌, ◌%◌, ◌+◌}
use lib.Dec.{leb}
use lib.ListN.{replicate}
use Rattle.model_text.specs.Utf8.{is_surrogate, is_scalar, encode_scalar, lead_length, own_bits, least, fitting, is_tail, well_formed, utf8}
use Rattle.model_text.specs.Printable.{is_printable_byte, is_printable, is_marks, is_key}
use Rattle.model_text.specs.Calendar.{is_leap, month_days}
use Rattle.model_text.specs.Stamp.{is_digit, is_pair, has_digits, day_exists, is_short, is_stamp, takes_stamp}
use Rattle.model_text.specs.Version.{first, latest}
use Rattle.model_text.specs.Hex.{digit_value, line_bytes, digit_of, hex_of, decimal, refusal_text}
use Rattle.model_text.specs.Lines.{lines_of}

-- ---- UTF-8: the examples of RFC 3629, and the edges of each row

texts : List (List ℕ × Bool)
texts =
    (0x41 ∷ 0xE2 ∷ 0x89 ∷ 0xA2 ∷ 0xCE ∷ 0x91 ∷ 0x2E ∷ [], true)
    ∷ (0xED ∷ 0x95 ∷ 0x9C ∷ 0xEA ∷ 0xB5 ∷ 0xAD ∷ 0xEC ∷ 0x96 ∷ 0xB4 ∷ [], true)
    ∷ (0xE6 ∷ 0x97 ∷ 0xA5 ∷ 0xE6 ∷ 0x9C ∷ 0xAC ∷ 0xE8 ∷ 0xAA ∷ 0x9E ∷ [], true)
    ∷ (0xEF ∷ 0xBB ∷ 0xBF ∷ 0xF0 ∷ 0xA3 ∷ 0x8E ∷ 0xB4 ∷ [], true)
    ∷ (0x80 ∷ [], false)
    ∷ (0xC1 ∷ 0xBF ∷ [], false)
    ∷ (0xE0 ∷ 0x9F ∷ 0xBF ∷ [], false)
    ∷ (0xED ∷ 0xA0 ∷ 0x80 ∷ [], false)
    ∷ (0xED ∷ 0xBF ∷ 0xBF ∷ [], false)
    ∷ (0xF0 ∷ 0x8F ∷ 0xBF ∷ 0xBF ∷ [], false)
    ∷ (0xF4 ∷ 0x8F ∷ 0xBF ∷ 0xBF ∷ [], true)
    ∷ (0xF4 ∷ 0x90 ∷ 0x80 ∷ 0x80 ∷ [], false)
    ∷ (0xE2 ∷ 0x89 ∷ [], false)
    ∷ (0xE2 ∷ 0x41 ∷ 0xA2 ∷ [], false)
    ∷ []

texts_hold : map (λ p. utf8 p.0) texts ≡ map (λ p. p.1) texts
unfolding texts utf8 lead_length own_bits least fitting is_tail is_scalar is_surrogate well_formed
texts_hold = refl

-- the first and the last code point of each row, and two of the examples
rows : List (ℕ × List ℕ)
rows =
    (0x00, 0x00 ∷ [])
    ∷ (0x7F, 0x7F ∷ [])
    ∷ (0x80, 0xC2 ∷ 0x80 ∷ [])
    ∷ (0x7FF, 0xDF ∷ 0xBF ∷ [])
    ∷ (0x800, 0xE0 ∷ 0xA0 ∷ 0x80 ∷ [])
    ∷ (0x2262, 0xE2 ∷ 0x89 ∷ 0xA2 ∷ [])
    ∷ (0xFFFF, 0xEF ∷ 0xBF ∷ 0xBF ∷ [])
    ∷ (0x10000, 0xF0 ∷ 0x90 ∷ 0x80 ∷ 0x80 ∷ [])
    ∷ (0x233B4, 0xF0 ∷ 0xA3 ∷ 0x8E ∷ 0xB4 ∷ [])
    ∷ (0x10FFFF, 0xF4 ∷ 0x8F ∷ 0xBF ∷ 0xBF ∷ [])
    ∷ []

rows_hold : map (λ p. encode_scalar p.0) rows ≡ map (λ p. p.1) rows
unfolding rows encode_scalar
rows_hold = refl

-- ---- stamps

-- two digits
two : ℕ → List ℕ
two n = (48 + n / 10) ∷ (48 + n % 10) ∷ []

-- -h:n:s
hour : ℕ → ℕ → ℕ → List ℕ
hour h n s = (45 ∷ []) ++ two h ++ (58 ∷ []) ++ two n ++ (58 ∷ []) ++ two s

-- 2024, month m, day d, h:n:s, and then l
stamp : ℕ → ℕ → ℕ → ℕ → ℕ → List ℕ → List ℕ
stamp m d h n s l = two 20 ++ two 24 ++ two m ++ two d ++ hour h n s ++ l

stamps : List (List ℕ × Bool)
stamps =
    (stamp 2 29 23 59 60 [], true)
    ∷ (stamp 2 29 24 0 0 [], false)
    ∷ (stamp 1 1 0 0 0 [], true)
    ∷ (stamp 12 31 23 59 59 (46 ∷ 48 ∷ 57 ∷ 48 ∷ []), true)
    ∷ (stamp 12 31 23 59 59 (46 ∷ 48 ∷ 57 ∷ []), false)
    ∷ (stamp 12 31 23 59 61 [], false)
    ∷ (stamp 12 31 23 60 59 [], false)
    ∷ (stamp 0 31 23 59 59 [], false)
    ∷ (stamp 13 31 23 59 59 [], false)
    ∷ (stamp 12 0 23 59 59 [], false)
    ∷ (stamp 12 32 23 59 59 [], false)
    ∷ ([], false)
    ∷ []

-- what the store keeps, and what reading takes in each version
stamps_hold : (map (λ p. is_stamp p.0) stamps ≡ map (λ p. p.1) stamps) × (map (λ p. takes_stamp first p.0) stamps ≡ map (λ p. p.1) stamps) × (map (λ p. takes_stamp latest p.0) stamps ≡ map (λ p. p.1) stamps)
unfolding stamps stamp hour two takes_stamp is_short is_stamp has_digits day_exists month_days is_leap is_digit is_pair
stamps_hold = (refl, refl, refl)

-- 0 to 13 digits after the point: 0 and 3 in version 1, 0, 3, 6, 9 and 12 in version 2 and in the store; one digit that is none
digits_after : ℕ → List ℕ
digits_after n = stamp 2 29 23 59 60 (cond (leb 1 n) (46 ∷ replicate n 57) [])

counts : List ℕ
counts = 0 ∷ 1 ∷ 2 ∷ 3 ∷ 4 ∷ 5 ∷ 6 ∷ 7 ∷ 8 ∷ 9 ∷ 10 ∷ 11 ∷ 12 ∷ 13 ∷ []

five_forms : List Bool
five_forms = true ∷ false ∷ false ∷ true ∷ false ∷ false ∷ true ∷ false ∷ false ∷ true ∷ false ∷ false ∷ true ∷ false ∷ []

two_forms : List Bool
two_forms = true ∷ false ∷ false ∷ true ∷ false ∷ false ∷ false ∷ false ∷ false ∷ false ∷ false ∷ false ∷ false ∷ false ∷ []

digits_hold : (map (λ n. is_stamp (digits_after n)) counts ≡ five_forms) × (map (λ n. takes_stamp latest (digits_after n)) counts ≡ five_forms) × (map (λ n. takes_stamp first (digits_after n)) counts ≡ two_forms)
    × (takes_stamp latest (stamp 2 29 23 59 60 (46 ∷ replicate 11 57 ++ (58 ∷ []))) ≡ false)
unfolding digits_after counts five_forms two_forms stamp hour two takes_stamp is_short is_stamp has_digits day_exists month_days is_leap is_digit is_pair
digits_hold = (refl, refl, refl, refl)

-- year, month, and the month's last day: the months of 2023; February of leap years and others, of the year 0 too; the last day of all
ends : List (ℕ × ℕ × ℕ)
ends =
    (2023, 1, 31)
    ∷ (2023, 2, 28)
    ∷ (2023, 3, 31)
    ∷ (2023, 4, 30)
    ∷ (2023, 5, 31)
    ∷ (2023, 6, 30)
    ∷ (2023, 7, 31)
    ∷ (2023, 8, 31)
    ∷ (2023, 9, 30)
    ∷ (2023, 10, 31)
    ∷ (2023, 11, 30)
    ∷ (2023, 12, 31)
    ∷ (2024, 2, 29)
    ∷ (1900, 2, 28)
    ∷ (2000, 2, 29)
    ∷ (2100, 2, 28)
    ∷ (0, 2, 29)
    ∷ (9999, 12, 31)
    ∷ []

-- which of the days 28 to 32 are taken, at 00:00:00
late_days : (ℕ → Bool) → List Bool
late_days takes = map takes (28 ∷ 29 ∷ 30 ∷ 31 ∷ 32 ∷ [])

taken_in : (List ℕ → Bool) → ℕ → ℕ → List Bool
taken_in takes y m = late_days (λ d. takes (two (y / 100) ++ two (y % 100) ++ two m ++ two d ++ hour 0 0 0))

-- those up to the month's last day, and no others
lasts : List (List Bool)
lasts = map (λ p. late_days (λ d. leb d p.2)) ends

ends_hold : (map (λ p. taken_in is_stamp p.0 p.1) ends ≡ lasts) × (map (λ p. taken_in (takes_stamp first) p.0 p.1) ends ≡ lasts) × (map (λ p. taken_in (takes_stamp latest) p.0 p.1) ends ≡ lasts)
unfolding ends late_days taken_in lasts hour two takes_stamp is_short is_stamp has_digits day_exists month_days is_leap is_digit is_pair
ends_hold = (refl, refl, refl)

-- ---- marks and keys

marks : List (List ℕ × Bool)
marks =
    ([], true)
    ∷ (replicate 64 0x20, true)
    ∷ (replicate 65 0x20, false)
    ∷ (0x7E ∷ [], true)
    ∷ (0x7F ∷ [], false)
    ∷ (0x1F ∷ [], false)
    ∷ []

marks_hold : map (λ p. is_marks p.0) marks ≡ map (λ p. p.1) marks
unfolding marks is_marks is_printable is_printable_byte
marks_hold = refl

-- a key whose three first texts have n bytes, and whose last has m
keys : List ((ℕ × ℕ) × Bool)
keys = ((1, 0), true) ∷ ((32, 32), true) ∷ ((0, 0), false) ∷ ((33, 0), false) ∷ ((1, 33), false) ∷ []

key_of : ℕ → ℕ → Bool
key_of n m = is_key (replicate n 0x41) (replicate n 0x41) (replicate n 0x41) (replicate m 0x41)

keys_hold : map (λ p. key_of p.0.0 p.0.1) keys ≡ map (λ p. p.1) keys
unfolding keys key_of is_key is_printable is_printable_byte
keys_hold = refl

-- ---- the program's lines: 09af, 0, nothing, 0g, 0A, AF, the bytes beside each range of digits

hexes : List (List ℕ × Option (List ℕ))
hexes =
    (48 ∷ 57 ∷ 97 ∷ 102 ∷ [], some (0x09 ∷ 0xAF ∷ []))
    ∷ (48 ∷ [], none)
    ∷ ([], none)
    ∷ (48 ∷ 103 ∷ [], none)
    ∷ (48 ∷ 65 ∷ [], none)
    ∷ (65 ∷ 70 ∷ [], none)
    ∷ (48 ∷ 47 ∷ [], none)
    ∷ (48 ∷ 58 ∷ [], none)
    ∷ (48 ∷ 96 ∷ [], none)
    ∷ (48 ∷ 48 ∷ 13 ∷ [], none)
    ∷ []

hexes_hold : map (λ p. line_bytes p.0) hexes ≡ map (λ p. p.1) hexes
unfolding hexes line_bytes digit_value
hexes_hold = refl

-- what is written of the bytes 09, AF, and of the refusals 1, 9, 10, 26 and 99
written : List (List ℕ × List ℕ)
written =
    (hex_of (0x09 ∷ 0xAF ∷ []), 48 ∷ 57 ∷ 97 ∷ 102 ∷ [])
    ∷ (refusal_text 1, 82 ∷ 32 ∷ 49 ∷ [])
    ∷ (refusal_text 9, 82 ∷ 32 ∷ 57 ∷ [])
    ∷ (refusal_text 10, 82 ∷ 32 ∷ 49 ∷ 48 ∷ [])
    ∷ (refusal_text 26, 82 ∷ 32 ∷ 50 ∷ 54 ∷ [])
    ∷ (refusal_text 99, 82 ∷ 32 ∷ 57 ∷ 57 ∷ [])
    ∷ []

written_hold : map (λ p. p.0) written ≡ map (λ p. p.1) written
unfolding written digit_of decimal refusal_text
written_hold = refl

-- the lines of a text: none, an empty one, a last one with and without its line feed, an empty one between two others
splits : List (List ℕ × List (List ℕ))
splits =
    ([], [])
    ∷ (10 ∷ [], [] ∷ [])
    ∷ (97 ∷ 10 ∷ [], (97 ∷ []) ∷ [])
    ∷ (97 ∷ 98 ∷ [], (97 ∷ 98 ∷ []) ∷ [])
    ∷ (97 ∷ 10 ∷ 10 ∷ 98 ∷ 13 ∷ 10 ∷ [], (97 ∷ []) ∷ [] ∷ (98 ∷ 13 ∷ []) ∷ [])
    ∷ []

splits_hold : map (λ p. lines_of p.0) splits ≡ map (λ p. p.1) splits
unfolding splits
splits_hold = refl
