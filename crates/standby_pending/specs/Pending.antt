-- What the words of a store say of the pending commits. Assumes nothing.
use Rattle.std.specs.Prelude.{List, map, ℕ, ◌/◌, ◌%◌, get_or, take, drop}
use Rattle.store_areas.specs.StoreWord

-- how many are pending
abbrev pub count_of : List ℕ → ℕ
count_of w = get_or w StoreWord.pending 0

-- how many handles there are
abbrev pub handle_count : ℕ
handle_count = 4294967296

-- a handle, and the number of its session's place
abbrev pub commit_of : ℕ → ℕ × ℕ
commit_of x = (x % handle_count, x / handle_count)

-- the pending commits, oldest first
unfoldable pub pending_of : List ℕ → List (ℕ × ℕ)
pending_of w = map commit_of (take (count_of w) (drop StoreWord.commits w))
