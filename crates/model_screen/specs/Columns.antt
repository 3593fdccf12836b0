-- Text in lines of at most 80 columns, and numbers in it. Assumes nothing.
use Rattle.std.specs.Prelude.{ℕ, suc, ◌+◌, ◌-◌, ◌%◌, Bool, true, cond, not, ◌&&◌, List, [], ◌∷◌, ◌++◌, map, length, take, replicate, eqb, leb, ltb, decimal}

-- ---- lines

abbrev pub columns : ℕ
columns = 80

-- before the parts of a line that go on to a next one
abbrev pub indent : List ℕ
indent = 32 ∷ 32 ∷ 32 ∷ []

abbrev pub part_width : ℕ
part_width = 77

-- a byte that isn't printable ASCII is shown as a full stop
abbrev pub visible : ℕ → ℕ
visible b = cond (leb 32 b && ltb b 127) b 46

-- a part of a line, which never has more than a line's columns behind the indent
abbrev pub shown : List ℕ → List ℕ
shown p = map visible (take part_width p)

-- a part of n bytes that has room is one column behind the part before it; one that hasn't begins a next line
abbrev pub has_room : ℕ → ℕ → Bool
has_room column n = leb (column + 1 + n) columns

abbrev pub break_before : ℕ → ℕ → List ℕ
break_before column n = cond (eqb column 0) [] (cond (has_room column n) (32 ∷ []) (10 ∷ indent))

abbrev pub column_after : ℕ → ℕ → ℕ
column_after column n = cond (eqb column 0) n (cond (has_room column n) (column + 1 + n) (length indent + n))

-- the parts from a column on, to the line's end
unfoldable pub flow : ℕ → List (List ℕ) → List ℕ
flow column [] = 10 ∷ []
flow column (p ∷ ps) = (break_before column (length (shown p)) ++ shown p) ++ flow (column_after column (length (shown p))) ps

abbrev pub lines : List (List (List ℕ)) → List ℕ
lines [] = []
lines (ps ∷ rest) = flow 0 ps ++ lines rest

-- from a column on, no line of a text has more than 80 columns
abbrev pub within : ℕ → List ℕ → Bool
within column [] = true
within column (b ∷ bs) = cond (eqb b 10) (within 0 bs) (leb (suc column) columns && within (suc column) bs)

-- ---- numbers

-- at the right of a column, at the left of one
abbrev pub at_right : ℕ → List ℕ → List ℕ
at_right width t = replicate (width - length t) 32 ++ t

abbrev pub at_left : ℕ → List ℕ → List ℕ
at_left width t = t ++ replicate (width - length t) 32

-- n digits are threes of digits, and some
abbrev pub are_threes : ℕ → Bool
are_threes n = not (eqb n 0) && eqb (n % 3) 0

-- a text that is too long for a column ends with two full stops
abbrev pub cut : ℕ → List ℕ → List ℕ
cut width t = cond (leb (length t) width) t (take (width - 2) t ++ (46 ∷ 46 ∷ []))

-- a number behind a text
abbrev pub numbered : List ℕ → ℕ → List ℕ
numbered t n = t ++ decimal n

-- a comma behind each digit before threes of digits
abbrev pub with_commas : List ℕ → List ℕ
with_commas [] = []
with_commas (d ∷ ds) = (d ∷ cond (are_threes (length ds)) (44 ∷ []) []) ++ with_commas ds

abbrev pub grouped : ℕ → List ℕ
grouped n = with_commas (decimal n)
