-- What the words of a book's area say; where each stands: BookWord. A word that is 0 says none of the next, or of an entry that it wasn't compared. Assumes nothing.
use Rattle.std.specs.Prelude.{Some, None, Bool, cond, ◌&&◌, List, [], ◌∷◌, ℕ, zero, suc, ◌+◌, length, get_or, eqb, leb}
use Rattle.std.specs.Prelude as std
use Rattle.std.proofs.Math.Option.{Option, none, some}
use Rattle.model_active.specs.CatchUp.{Entry, Book}
use Rattle.active_books_area.specs.BookWord

-- f at n numbers from i on
abbrev pub list_from : {A : Type 0} → (ℕ → A) → ℕ → ℕ → List A
list_from f i zero = []
list_from f i (suc n) = f i ∷ list_from f (suc i) n

abbrev pub flagged : ℕ → ℕ → Option ℕ
flagged f n = cond (eqb f 0) none (some n)

-- the code's option as the definitions have it
abbrev pub option_of : std.Option ℕ → Option ℕ
option_of None = none
option_of (Some n) = some n

-- the word at k of those from `base` on
abbrev pub word_at : List ℕ → ℕ → ℕ → ℕ
word_at w base k = get_or w (base + k) 0

abbrev pub book_entry : List ℕ → ℕ → Entry
book_entry w k = record { session = word_at w BookWord.sessions k; opens = word_at w BookWord.opens k; compared = flagged (word_at w BookWord.compared k) (word_at w BookWord.incarnations k) }

-- how many sessions were met, how many are behind
abbrev pub met_count_of : List ℕ → ℕ
met_count_of w = get_or w BookWord.met_count 0

abbrev pub behind_count_of : List ℕ → ℕ
behind_count_of w = get_or w BookWord.behind_count 0

unfoldable pub book_of : List ℕ → Book
book_of w = record {
  met = list_from (book_entry w) 0 (met_count_of w);
  behind = list_from (word_at w BookWord.behind) 0 (behind_count_of w);
  catching = flagged (get_or w BookWord.is_catching 0) (get_or w BookWord.catching 0);
  acknowledged = flagged (get_or w BookWord.is_acknowledged 0) (get_or w BookWord.acknowledged 0);
}

-- the rules of an area: it is long enough, and the two counts are at most 256
unfoldable pub books_allowed : List ℕ → Bool
books_allowed w = leb BookWord.size (length w) && (leb (met_count_of w) 256 && leb (behind_count_of w) 256)
