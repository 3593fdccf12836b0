-- What feeding a piece answers. Assumes nothing.
use Rattle.std.specs.Prelude.{◌≡◌, List, ℕ, ◌≤◌, ◌<◌, length, take, drop, Option, Some, None, IfSome}
use Rattle.model_text.specs.Lines.{LineCut, whole_line, part_line, cut_at}
use Rattle.base_lines.specs.declared.Fed.{Fed}

-- the first len bytes are kept, and the piece goes on at next
abbrev pub cut_of : List ℕ → List ℕ → ℕ → Option ℕ → LineCut
cut_of line piece len (Some next) = whole_line (take len line) (drop next piece)
cut_of line piece len None = part_line (take len line)

-- the piece from `from` on is cut as the definition says, behind the first len bytes of the area; after a whole line the piece goes on further along
pub record Feeds (before : List ℕ) (len : ℕ) (piece : List ℕ) (from : ℕ) (after : List ℕ) (f : Fed) : Type 0 where
  pub cut : cut_of after piece f.len f.next ≡ cut_at (length before) (take len before) (drop from piece)
  pub room : f.len ≤ length before
  pub within : IfSome f.next (λ n. n ≤ length piece)
  pub further : IfSome f.next (λ n. from < n)
