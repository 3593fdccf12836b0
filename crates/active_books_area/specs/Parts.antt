-- What the parts that work on an area promise each other. Assumes nothing.
use Rattle.std.specs.Prelude.{◌≡◌, false, List, [], ◌∷◌, ◌++◌, ℕ, ◌+◌, ◌≤◌, ◌<◌, length, drop, Option, Some, None, Result, Ok, Err}
use Rattle.base_refusals.specs.declared.Refusal.{Refusal}
use Rattle.model_active.specs.CatchUp.{Book, new, met_now, meeting}
use Rattle.active_books_area.specs.BookWord
use Rattle.active_books_area.specs.Words.{word_at, book_of, books_allowed, met_count_of, behind_count_of}

pub record BooksRules (w : List ℕ) : Type 0 where
  pub long : BookWord.size ≤ length w
  pub few : met_count_of w ≤ 256
  pub few_behind : behind_count_of w ≤ 256

-- an area that breaks a rule is refused
abbrev pub ChecksBooks : List ℕ → Result (Unit {0}) Refusal → Type 0
ChecksBooks w (Ok _) = BooksRules w
ChecksBooks w (Err e) = (books_allowed w ≡ false) × (e ≡ Refusal.RulesBroken)

-- the words w' are those of w with the book b in them, and nothing else is touched
pub record MakesBook (w w' : List ℕ) (b : Book) : Type 0 where
  pub book : book_of w' ≡ b
  pub ruled : BooksRules w'
  pub rest : drop BookWord.size w' ≡ drop BookWord.size w

-- s was met, and its entry stands at i, the first that is of s
pub record At (w : List ℕ) (s i : ℕ) : Type 0 where
  pub ruled : BooksRules w
  pub before : (k : ℕ) → k < i → word_at w BookWord.sessions k ≡ s → ⊥
  pub there : word_at w BookWord.sessions i ≡ s
  pub inside : i < met_count_of w

-- where s stands among those met
abbrev pub FindsMet : List ℕ → ℕ → Option ℕ → Type 0
FindsMet w s (Some i) = At w s i
FindsMet w s None = (k : ℕ) → k < met_count_of w → word_at w BookWord.sessions k ≡ s → ⊥

-- s is the last met now
pub record Appends (w w' : List ℕ) (s : ℕ) : Type 0 where
  pub makes : MakesBook w w' (met_now (book_of w) ((book_of w).met ++ (new s ∷ [])))
  pub count : met_count_of w' ≡ met_count_of w + 1
  pub before : (k : ℕ) → k < met_count_of w → word_at w' BookWord.sessions k ≡ word_at w BookWord.sessions k
  pub last : word_at w' BookWord.sessions (met_count_of w) ≡ s

-- s is met now, at i
pub record Meets (w w' : List ℕ) (s i : ℕ) : Type 0 where
  pub makes : MakesBook w w' (met_now (book_of w) (meeting (s ∷ []) (book_of w).met))
  pub at : At w' s i

-- it would be a 257th: no word changed
pub record IsFull (w w' : List ℕ) (s : ℕ) (e : Refusal) : Type 0 where
  pub refusal : e ≡ Refusal.TooManySessions
  pub unchanged : w' ≡ w
  pub full : 256 < length (meeting (s ∷ []) (book_of w).met)

-- where s stands once it is met, or there is no room for it
abbrev pub MeetsIfRoom : List ℕ → List ℕ → ℕ → Result ℕ Refusal → Type 0
MeetsIfRoom w w' s (Ok i) = Meets w w' s i
MeetsIfRoom w w' s (Err e) = IsFull w w' s e
