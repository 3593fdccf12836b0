-- What sends a session whole: the batches, and the frames that carry them.
-- Assumes nothing.
use Rattle.std.specs.Prelude.{ℕ, suc, ◌+◌, ◌*◌, ◌-◌, List, [], ◌∷◌, ◌++◌, Bool, true, false, cond, length, ltb}
use Rattle.std.proofs.Math.Option.{Option, none, some}
use Rattle.model_text.specs.Stamp.{longest_stamp, longest_short}
use Rattle.model_frame.specs.Frame.{Change, set_incoming, set_incoming_in_flight, record_msg, record_bare, reset, set_created_at, set_marks, Frame, batch, whole, last_whole}
use Rattle.model_session.specs.Session.{Session, Msg}

-- a batch with more message bytes than these is full
abbrev pub batch_limit : ℕ
batch_limit = 1048576

-- the stamp if any
abbrev pub stamp_part : List ℕ → List Change
stamp_part [] = []
stamp_part (b ∷ bs) = set_created_at (b ∷ bs) ∷ []

-- a bare Record of n - 1 if numbers from `next` on were skipped before n
abbrev pub skip_to : ℕ → ℕ → List Change
skip_to next n = cond (ltb next n) (record_bare (n - 1) ∷ []) []

-- a message, preceded by a bare Record if numbers were skipped
abbrev pub send_msg : ℕ → Msg → List Change
send_msg next m = skip_to next m.num ++ (record_msg m.num m.text ∷ [])

-- change 2 with an in-flight number, else 1
abbrev pub incoming_part : ℕ → Option ℕ → Change
incoming_part n none = set_incoming n
incoming_part n (some f) = set_incoming_in_flight n f

-- a bare Record up to next outgoing if numbers are left before it; incoming; marks
abbrev pub closing : Session → ℕ → List Change
closing a next = skip_to next a.next_out ++ (incoming_part a.next_in a.in_flight ∷ set_marks a.marks ∷ [])

-- the batch is full: it stands, and the rest follows
abbrev pub batch_if : Bool → List Change → List (List Change) → List (List Change)
batch_if true now rest = now ∷ rest
batch_if false now rest = rest

module _ (limit : ℕ) (a : Session) where
  -- the batch so far with its message bytes, the next number, the messages left; one batch a call is `send_next` (Sender.antt), and that both give the
  -- same frames is `sends_whole` (proofs/Sender)
  abbrev pub batches_from : List Change → ℕ → ℕ → List Msg → List (List Change)
  batches_from now bytes next [] = (now ++ closing a next) ∷ []
  batches_from now bytes next (m ∷ ms) =
      batch_if (ltb limit bytes) now
      (batches_from (cond (ltb limit bytes) [] now ++ send_msg next m) (cond (ltb limit bytes) 0 bytes + length m.text) (suc m.num) ms)

  unfoldable pub whole_batches : List (List Change)
  whole_batches = batches_from (reset ∷ stamp_part a.stamp) 0 1 a.messages

-- the changes of a list of batches
abbrev pub all_changes : List (List Change) → List Change
all_changes [] = []
all_changes (b ∷ bs) = b ++ all_changes bs

-- the batches numbered on from `last`: Whole, and LastWhole for the last
abbrev pub frames_of : ℕ → ℕ → ℕ → List (List Change) → List Frame
frames_of h e last [] = []
frames_of h e last (b ∷ []) = batch h e (suc last) last_whole b [] ∷ []
frames_of h e last (b ∷ c ∷ bs) = batch h e (suc last) whole b [] ∷ frames_of h e (suc last) (c ∷ bs)

unfoldable pub whole_frames : ℕ → ℕ → ℕ → ℕ → Session → List Frame
whole_frames limit h e last a = frames_of h e last (whole_batches limit a)

-- the greatest length of a stamp of this kind: long, or not
abbrev pub longest_like : List ℕ → ℕ
longest_like stamp = cond (ltb longest_short (length stamp)) longest_stamp longest_short

-- a hold area of this length takes any session with such a stamp: C + 22 × M + 122, of which 21 are for the stamp, and 9 more for a long one
abbrev pub hold_length : ℕ → ℕ → List ℕ → ℕ
hold_length C M stamp = C + 22 * M + (101 + longest_like stamp)
