-- Counting the batches. Assumes nothing.
use mathlib.Core.Path.{◌≡◌, refl, ap, ◌∙◌}
use mathlib.Core.Bool.{Bool, true, false, cond}
use mathlib.Core.List.{List, [], ◌∷◌, ◌++◌}
use Prim.Native.Nat.{ℕ, zero, suc, ◌+◌, ◌≤◌, ◌<◌}
use native.Mathlib.Nat.{zero-add}
use native.Mathlib.Omega.{arith}
use lib.ListN.{length, take, length-reverse}
use lib.Seq.{length-take-le}
use lib.Dec.{ltb}
use borrow.Author.Tests.{le-ltb}
use Rattle.model_frame.specs.Frame.{Change}
use Rattle.model_session.specs.Session.{Session, Msg}
use Rattle.model_session.specs.Whole.{send_msg, batch_if, batches_from}
use Rattle.model_session.specs.Summary.{numbered_from}
use Rattle.store_log.specs.Log.{newest_first, log_of, rest_of, Position, From}
use Rattle.active_messages.specs.Cut.{left_over, batch_count, Measured}

module _ (limit : ℕ) where
  -- the batches of the messages that are left
  abbrev pub afterwards : List Msg → ℕ
  afterwards [] = 0
  afterwards (m ∷ ms) = batch_count limit 0 (m ∷ ms)

  pub count_step : (sent : ℕ) (ms : List Msg) → batch_count limit sent ms ≡ suc (afterwards (left_over limit sent ms))
  count_step sent [] = refl
  count_step sent (m ∷ ms) = go (ltb limit sent) (count_step (sent + length m.text) ms)
    where
      go : (t : Bool) → batch_count limit (sent + length m.text) ms ≡ suc (afterwards (left_over limit (sent + length m.text) ms))
          → cond t (suc (batch_count limit (length m.text) ms)) (batch_count limit (sent + length m.text) ms)
          ≡ suc (afterwards (cond t (m ∷ ms) (left_over limit (sent + length m.text) ms)))
      go true ih = rw (le-ltb limit 0 (omega arith), zero-add (length m.text))
      go false ih = ih

  -- they are the batches of a session
  pub count_is : (a : Session) (before : List Change) (sent next : ℕ) (ms : List Msg) → length (batches_from limit a before sent next ms) ≡ batch_count limit sent ms
  count_is a before sent next [] = refl
  count_is a before sent next (m ∷ ms) =
      go (ltb limit sent) (count_is a ([] ++ send_msg next m) (0 + length m.text) (suc m.num) ms) (count_is a (before ++ send_msg next m) (sent + length m.text) (suc m.num) ms)
    where
      go : (t : Bool) → length (batches_from limit a ([] ++ send_msg next m) (0 + length m.text) (suc m.num) ms) ≡ batch_count limit (0 + length m.text) ms
          → length (batches_from limit a (before ++ send_msg next m) (sent + length m.text) (suc m.num) ms) ≡ batch_count limit (sent + length m.text) ms
          → length (batch_if t before (batches_from limit a (cond t [] before ++ send_msg next m) (cond t 0 sent + length m.text) (suc m.num) ms))
          ≡ cond t (suc (batch_count limit (length m.text) ms)) (batch_count limit (sent + length m.text) ms)
      go true i j = ap suc (i ∙ rw (zero-add (length m.text)))
      go false i j = j

  pub some_left : (ms : List Msg) → 0 < length ms → afterwards ms ≡ batch_count limit 0 ms
  some_left [] h = absurd (no h)
    where
      no : 0 < 0 → ⊥
      no h = omega arith
  some_left (m ∷ ms) h = refl

-- as many messages are left as the place says
pub rest_length : (C M end : ℕ) (w b : List ℕ) (left dist : ℕ) → Position C M end w b left dist → length (rest_of C M end w b left) ≡ left
unfolding rest_of
rest_length C M end w b left dist s = length-reverse (take left (newest_first C M end w b)) ∙ length-take-le left (newest_first C M end w b) s.many

pub rest_some : (C M end : ℕ) (w b : List ℕ) (left dist : ℕ) → Position C M end w b left dist → 0 < left → 0 < length (rest_of C M end w b left)
rest_some C M end w b left dist s h = omega (arith, rest_length C M end w b left dist s)

pub rest_none : (C M end : ℕ) (w b : List ℕ) (left : ℕ) → left ≤ 0 → rest_of C M end w b left ≡ []
unfolding rest_of
rest_none C M end w b zero h = refl
rest_none C M end w b (suc left) h = absurd (no h)
  where
    no : suc left ≤ 0 → ⊥
    no h = omega arith

module _ (limit C M end : ℕ) (w b : List ℕ) where
  abbrev all : List Msg
  all = numbered_from 1 (log_of C M end w b)

  pub record Counting (left dist count : ℕ) : Type 0 where
    pub stands : Position C M end w b left dist
    pub total : count + afterwards limit (rest_of C M end w b left) ≡ batch_count limit 0 all
    pub few : 0 < left → count + dist ≤ C
    pub most : count ≤ C + 1

  pub begins : (left dist next left' dist' next' count size : ℕ) → From C M end 1 w b left dist → Measured limit C M end w b left dist next left' dist' next' count size → Counting left' dist' 1
  begins left dist next left' dist' next' count size f m =
      record {
        stands = m.stands;
        total = omega (arith, count_step limit 0 all, ap (λ (ms : List Msg). afterwards limit (left_over limit 0 ms)) f.is, ap (afterwards limit) m.rest);
        few = λ k. omega (arith, m.goes k, f.stands.room);
        most = omega arith;
      }

  -- a batch ends nearer to the end
  pub nearer : (left dist next left' dist' next' c size : ℕ) → 0 < left → Measured limit C M end w b left dist next left' dist' next' c size → left' + dist' < left + dist
  nearer left dist next zero dist' next' c size h m = omega (arith, h, m.stands.sum)
  nearer left dist next (suc left') dist' next' c size h m = omega (arith, m.goes (omega arith), m.few)

  pub goes_on : (left dist count next left' dist' next' c size : ℕ) → Counting left dist count → 0 < left → Measured limit C M end w b left dist next left' dist' next' c size → Counting left' dist' (count + 1)
  goes_on left dist count next left' dist' next' c size g h m =
      record {
        stands = m.stands;
        total = omega (arith, g.total, some_left limit (rest_of C M end w b left) (rest_some C M end w b left dist g.stands h), count_step limit 0 (rest_of C M end w b left), ap (afterwards limit) m.rest);
        few = λ k. omega (arith, m.goes k, g.few h);
        most = omega (arith, g.few h);
      }

  pub ends_count : (left dist count : ℕ) → Counting left dist count → left ≤ 0 → C ≤ 33554432 → (count ≡ batch_count limit 0 all) × (count ≤ 33554433)
  ends_count left dist count g h k = (omega (arith, g.total, ap (afterwards limit) (rest_none C M end w b left h)), omega (arith, g.most))
