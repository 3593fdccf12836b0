-- Parsers over lists of bytes: the value and what is left, or the first fault in reading order.
-- Assumes nothing.
use Rattle.std.specs.Prelude.{ℕ, zero, suc, ◌*◌, Bool, true, false, cond, List, [], ◌∷◌, ◌++◌, length, take, drop, leb, eqb}
use Rattle.model_text.specs.Utf8.{utf8}
use Rattle.model_frame.specs.Bytes.{le}
use Rattle.model_frame.specs.Frame.{Fault, truncated, bad_text}

infixl 20 ◌>>=◌
pub data Res (A : Type 0) : Type 0 where
  ok : A → List ℕ → Res A
  bad : Fault → Res A

abbrev pub Parser : Type 0 → Type 0
Parser A = List ℕ → Res A

abbrev pub is_empty : {A : Type 0} → List A → Bool
is_empty [] = true
is_empty (x ∷ xs) = false

-- the value of the row whose tag is k
abbrev pub choose : {A : Type 0} → ℕ → List (ℕ × A) → A → A
choose k [] other = other
choose k (row ∷ rows) other = cond (eqb k row.0) row.1 (choose k rows other)

abbrev pub and_then : {A B : Type 0} → Res A → (A → Parser B) → Res B
and_then (ok a s) f = f a s
and_then (bad e) f = bad e

abbrev pub ◌>>=◌ : {A B : Type 0} → Parser A → (A → Parser B) → Parser B
◌>>=◌ p f s = and_then (p s) f

abbrev pub pure : {A : Type 0} → A → Parser A
pure a s = ok a s

abbrev pub fail : {A : Type 0} → Fault → Parser A
fail e s = bad e

-- n bytes; a number of n bytes; a blob; a text
unfoldable pub read_bytes : ℕ → Parser (List ℕ)
read_bytes n s = cond (leb n (length s)) (ok (take n s) (drop n s)) (bad truncated)

unfoldable pub read_num : ℕ → Parser ℕ
read_num n = do
  bs ← read_bytes n
  pure (le bs)

unfoldable pub read_blob : Parser (List ℕ)
read_blob = do
  n ← read_num 4
  read_bytes n

unfoldable pub read_text : Parser (List ℕ)
read_text = do
  bs ← read_blob
  cond (utf8 bs) (pure bs) (fail bad_text)

-- a count whose items need at least min bytes each in what is left
unfoldable pub read_count : ℕ → Parser ℕ
read_count min = do
  n ← read_num 4
  (λ s. cond (leb (n * min) (length s)) (ok n s) (bad truncated))

-- n items, one after the other
unfoldable pub many : {A : Type 0} → ℕ → Parser A → Parser (List A)
many zero p = pure []
many (suc n) p = do
  x ← p
  xs ← many n p
  pure (x ∷ xs)

-- where a run of items ends
abbrev pub forget : {A : Type 0} → Res A → Res (Unit {0})
forget (ok a s) = ok tt s
forget (bad e) = bad e

-- the items of a run, as far as they can be read
abbrev pub item_then : {A : Type 0} → Res A → (List ℕ → List A) → List A
item_then (ok a s) f = a ∷ f s
item_then (bad e) f = []

unfoldable pub collect : {A : Type 0} → ℕ → Parser A → List ℕ → List A
collect zero p s = []
collect (suc n) p s = item_then (p s) (collect n p)

-- a run of items, written; and a fact of each of its items
unfoldable pub run_bytes : {A : Type 0} → (A → List ℕ) → List A → List ℕ
run_bytes f [] = []
run_bytes f (x ∷ xs) = f x ++ run_bytes f xs

abbrev pub Each : {A : Type 0} → (A → Type 0) → List A → Type 0
Each P [] = Unit {0}
Each P (x ∷ xs) = P x × Each P xs
