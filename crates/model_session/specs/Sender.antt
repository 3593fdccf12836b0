-- Sending a session whole, one frame a call: the frames of `whole_frames` (Whole.antt), by `sends_whole` in proofs/Sender.
-- Assumes nothing.
use Rattle.std.specs.Prelude.{◌≡◌, ℕ, zero, suc, ◌+◌, max, List, [], ◌∷◌, ◌++◌, Bool, false, cond, length, ltb, leb}
use Rattle.std.proofs.Math.Option.{Option, none, some}
use Rattle.model_frame.specs.Frame.{Change, reset, Part, whole, last_whole, Frame, batch}
use Rattle.model_session.specs.Session.{Session, Msg, top}
use Rattle.model_session.specs.Whole.{stamp_part, send_msg, closing, whole_batches}

-- what a call hands on to the next
pub record Sender : Type 0 where
  pub handle : ℕ
  pub epoch : ℕ
  -- the last commit number
  pub last : ℕ
  -- the number that sending goes on from: 0 before the first frame, none after the last
  pub from : Option ℕ

abbrev pub new_sender : ℕ → ℕ → ℕ → Sender
new_sender h e last = record { handle = h; epoch = e; last = last; from = some 0 }

-- the messages from number n on (numbers rise)
abbrev pub messages_from : ℕ → List Msg → List Msg
messages_from n [] = []
messages_from n (m ∷ ms) = cond (leb n m.num) (m ∷ ms) (messages_from n ms)

-- a batch, and the number that the next one goes on from, if there is one
pub record Cut : Type 0 where
  pub changes : List Change
  pub goes_on : Option ℕ

abbrev pub sent_part : Option ℕ → Part
sent_part none = last_whole
sent_part (some n) = whole

module _ (limit : ℕ) (a : Session) where
  -- the batch so far with its message bytes, the next number, the messages left
  abbrev pub cut_batch : List Change → ℕ → ℕ → List Msg → Cut
  cut_batch now bytes next [] = record { changes = now ++ closing a next; goes_on = none }
  cut_batch now bytes next (m ∷ ms) =
      cond (ltb limit bytes) (record { changes = now; goes_on = some next })
      (cut_batch (now ++ send_msg next m) (bytes + length m.text) (suc m.num) ms)

  -- Reset and the stamp stand before all else
  abbrev pub opening : ℕ → List Change
  opening zero = reset ∷ stamp_part a.stamp
  opening (suc n) = []

  abbrev pub cut_from : ℕ → Cut
  cut_from n = cut_batch (opening n) 0 (max n 1) (messages_from (max n 1) a.messages)

  abbrev pub sent : Sender → Cut → Frame × Sender
  sent s c = (
    batch s.handle s.epoch (suc s.last) (sent_part c.goes_on) c.changes [],
    record { handle = s.handle; epoch = s.epoch; last = suc s.last; from = c.goes_on },
  )

  abbrev pub sent_from : Sender → Option ℕ → Option (Frame × Sender)
  sent_from s none = none
  sent_from s (some n) = some (sent s (cut_from n))

  -- the next frame, and what to hand to the next call; none: done
  unfoldable pub send_next : Sender → Option (Frame × Sender)
  send_next s = sent_from s s.from

  -- call after call gives these frames, and then "done"
  pub data Sends : Sender → List Frame → Type 0 where
    all_sent : {s : Sender} → send_next s ≡ none → Sends s []
    is_next : {s t : Sender} {f : Frame} {fs : List Frame} → send_next s ≡ some (f, t) → Sends t fs → Sends s (f ∷ fs)

  -- 24: at the start the commit numbers would pass 2^64 - 1
  abbrev pub passes_top : ℕ → Option ℕ → Bool
  passes_top last none = false
  passes_top last (some zero) = ltb top (last + length (whole_batches limit a))
  passes_top last (some (suc n)) = false

  unfoldable pub cannot_send : Sender → Bool
  cannot_send s = passes_top s.last s.from
