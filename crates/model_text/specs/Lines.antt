-- The lines of a text, and what a piece of it gives that is read at once. Assumes nothing.
use Rattle.std.specs.Prelude.{◌≡◌, cond, List, [], ◌∷◌, ◌++◌, ℕ, zero, suc, ◌+◌, eqb, ltb, length, take, drop}

-- the line feed
abbrev pub feed : ℕ
feed = 10

-- a byte in front of the first line
abbrev pub in_front : ℕ → List (List ℕ) → List (List ℕ)
in_front b [] = (b ∷ []) ∷ []
in_front b (l ∷ ls) = (b ∷ l) ∷ ls

-- the text is split at its line feeds; what stands behind the last of them is a line only if it isn't empty
abbrev pub lines_of : List ℕ → List (List ℕ)
lines_of [] = []
lines_of (b ∷ s) = cond (eqb b feed) ([] ∷ lines_of s) (in_front b (lines_of s))

-- ---- the same, of a text that is read in pieces: `handed_read` in proofs/Split shows that it gives these lines

-- where the first line feed stands, or the length
abbrev pub first_feed : List ℕ → ℕ
first_feed [] = zero
first_feed (b ∷ s) = cond (eqb b feed) zero (suc (first_feed s))

-- a whole line and what stands behind its line feed, or a part of a line
pub data LineCut : Type 0 where
  whole_line : List ℕ → List ℕ → LineCut
  part_line : List ℕ → LineCut

-- what the piece s gives behind p, where no more than `room` bytes of a line are kept
unfoldable pub cut_at : ℕ → List ℕ → List ℕ → LineCut
cut_at room p s =
    cond (ltb (first_feed s) (length s))
    (whole_line (take room (p ++ take (first_feed s) s)) (drop (first_feed s + 1) s))
    (part_line (take room (p ++ s)))

-- the lines handed on, of the pieces that are read one after the other with p kept: each whole line, and at the end what is kept, if anything is
pub data Handed (room : ℕ) : List ℕ → List (List ℕ) → List (List ℕ) → Type 0 where
  ended : Handed room [] [] []
  last_line : {b : ℕ} {p : List ℕ} → Handed room (b ∷ p) [] ((b ∷ p) ∷ [])
  line : {p s l rest : List ℕ} {pieces lines : List (List ℕ)} → cut_at room p s ≡ whole_line l rest → Handed room [] (rest ∷ pieces) lines → Handed room p (s ∷ pieces) (l ∷ lines)
  no_feed : {p s q : List ℕ} {pieces lines : List (List ℕ)} → cut_at room p s ≡ part_line q → Handed room q pieces lines → Handed room p (s ∷ pieces) lines

-- all pieces as one text
abbrev pub joined : List (List ℕ) → List ℕ
joined [] = []
joined (s ∷ pieces) = s ++ joined pieces
