-- One batch of a whole sending, without what stands before and after the messages: those it takes, and those left. Assumes nothing.
use Rattle.std.specs.Prelude.{◌≡◌, cond, List, [], ◌∷◌, ◌++◌, ℕ, suc, ◌+◌, ◌*◌, ◌≤◌, ◌<◌, length, ltb}
use Rattle.std.proofs.Math.Option.{Option, none, some}
use Rattle.model_frame.specs.Frame.{Change}
use Rattle.model_frame.specs.Sizes.{sizes}
use Rattle.model_session.specs.Session.{Session, Msg}
use Rattle.model_session.specs.Whole.{send_msg, closing}
use Rattle.store_log.specs.Log.{rest_of, Position}

module _ (limit : ℕ) where
  -- with so many message bytes in the batch, and the next number: the changes of the messages that it takes
  abbrev pub taken : ℕ → ℕ → List Msg → List Change
  taken sent next [] = []
  taken sent next (m ∷ ms) = cond (ltb limit sent) [] (send_msg next m ++ taken (sent + length m.text) (suc m.num) ms)

  -- the messages that it leaves
  abbrev pub left_over : ℕ → List Msg → List Msg
  left_over sent [] = []
  left_over sent (m ∷ ms) = cond (ltb limit sent) (m ∷ ms) (left_over (sent + length m.text) ms)

  -- the next number after those that it takes
  abbrev pub next_after : ℕ → ℕ → List Msg → ℕ
  next_after sent next [] = next
  next_after sent next (m ∷ ms) = cond (ltb limit sent) next (next_after (sent + length m.text) (suc m.num) ms)

  -- how many batches there are, with so many message bytes in the first
  abbrev pub batch_count : ℕ → List Msg → ℕ
  batch_count sent [] = 1
  batch_count sent (m ∷ ms) = cond (ltb limit sent) (suc (batch_count (length m.text) ms)) (batch_count (sent + length m.text) ms)

-- what stands after the messages: the closing if none is left
abbrev pub closing_after : Session → ℕ → List Msg → List Change
closing_after a next [] = closing a next
closing_after a next (m ∷ ms) = []

-- the number that the next batch goes on from, if any message is left
abbrev pub goes_from : ℕ → List Msg → Option ℕ
goes_from next [] = none
goes_from next (m ∷ ms) = some next

-- from a place in the log: the place where the batch ends, the next number there, how many changes there are, and their bytes
pub record Measured (limit C M end : ℕ) (w b : List ℕ) (left dist next left' dist' next' count size : ℕ) : Type 0 where
  pub stands : Position C M end w b left' dist'
  pub rest : rest_of C M end w b left' ≡ left_over limit 0 (rest_of C M end w b left)
  pub after : next' ≡ next_after limit 0 next (rest_of C M end w b left)
  pub counts : count ≡ length (taken limit 0 next (rest_of C M end w b left))
  pub spans : size ≡ sizes (taken limit 0 next (rest_of C M end w b left))
  pub few : count + 2 * left' ≤ 2 * left
  pub small : size + 22 * left' + dist' ≤ 22 * left + dist
  pub goes : 0 < left' → dist' < dist
