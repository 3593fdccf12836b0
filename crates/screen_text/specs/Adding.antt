-- What writing into a text's area adds. Assumes nothing.
use Rattle.std.specs.Prelude.{ℕ, ◌≡◌, min, List, ◌++◌, length, take}
use Rattle.model_screen.specs.Columns.{shown, break_before, column_after}
use Rattle.screen_text.specs.declared.text.Text.{Text}

-- the area has a text, as far as there is room
pub record Has (x : Text) (t : List ℕ) : Type 0 where
  pub at : x.at ≡ min (length x.out.now) (length t)
  pub is : take x.at x.out.now ≡ take (length x.out.now) t

-- behind whatever text there was there is a further one, in the same area
pub record Adds (before : Text) (s : List ℕ) (after : Text) : Type 0 where
  pub has : (t : List ℕ) → Has before t → Has after (t ++ s)
  pub long : length after.out.now ≡ length before.out.now
  pub same : after.out.ghost_name ≡ before.out.ghost_name

-- a part of a line is added from a column on, up to a next column
pub record Flows (before : Text) (from : ℕ) (p : List ℕ) (after : Text) (next : ℕ) : Type 0 where
  pub adds : Adds before (break_before from (length (shown p)) ++ shown p) after
  pub column : next ≡ column_after from (length (shown p))
