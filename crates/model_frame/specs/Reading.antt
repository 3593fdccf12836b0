-- How a frame is read: document 01's tables of kinds and changes. The version goes to `takes_stamp` alone. Assumes nothing.
use Rattle.std.specs.Prelude.{ℕ, ◌+◌, ◌-◌, cond, ◌||◌, List, [], ◌∷◌, length, take, drop, ltb, eqb}
use Rattle.std.proofs.Math.Option.{Option, none, some}
use Rattle.model_text.specs.Printable.{is_marks, is_key}
use Rattle.model_text.specs.Stamp.{takes_stamp}
use Rattle.model_frame.specs.Bytes.{le}
use Rattle.model_frame.specs.Frame.{Key, Change, set_incoming, set_incoming_in_flight, set_in_flight, record_msg, record_bare, reset, set_created_at, set_marks, Part, commit, whole, last_whole, Reason, stale_epoch, diverged, lag_too_great, restarted, AppRecord, Summary, Frame, hello, welcome, bind, batch, ack, nack, bound, checked, Field, frameKind, part, refusal, change, too_long, truncated, unknown, bad_session, bad_timestamp, bad_marks, Decoded, more, faulty, got}
use Rattle.model_frame.specs.FrameKind
use Rattle.model_frame.specs.ChangeKind
use Rattle.model_frame.specs.PartByte
use Rattle.model_frame.specs.ReasonByte
use Rattle.model_frame.specs.Parse.{is_empty, Res, ok, bad, Parser, choose, ◌>>=◌, pure, fail, read_num, read_blob, read_text, read_count, many}

-- the longest body
abbrev pub max_body : ℕ
max_body = 67108864

-- a byte that names one of several
abbrev pub named : {A : Type 0} → Field → List (ℕ × Parser A) → Parser A
named field rows = do
  k ← read_num 1
  choose k rows (fail (unknown field k))

-- a stamp; a stamp or none; marks
unfoldable pub read_stamp : ℕ → Parser (List ℕ)
read_stamp version = do
  t ← read_text
  cond (takes_stamp version t) (pure t) (fail bad_timestamp)

unfoldable pub read_stamp_or_none : ℕ → Parser (List ℕ)
read_stamp_or_none version = do
  t ← read_text
  cond (is_empty t || takes_stamp version t) (pure t) (fail bad_timestamp)

unfoldable pub read_marks : Parser (List ℕ)
read_marks = do
  t ← read_text
  cond (is_marks t) (pure t) (fail bad_marks)

-- ---- the changes

unfoldable pub set_incoming_fields : Parser Change
set_incoming_fields = do
  seq ← read_num 8
  pure (set_incoming seq)

unfoldable pub set_incoming_in_flight_fields : Parser Change
set_incoming_in_flight_fields = do
  seq ← read_num 8
  in_flight ← read_num 8
  pure (set_incoming_in_flight seq in_flight)

unfoldable pub set_in_flight_fields : Parser Change
set_in_flight_fields = do
  seq ← read_num 8
  pure (set_in_flight seq)

unfoldable pub record_msg_fields : Parser Change
record_msg_fields = do
  seq ← read_num 8
  msg ← read_blob
  pure (record_msg seq msg)

unfoldable pub record_bare_fields : Parser Change
record_bare_fields = do
  seq ← read_num 8
  pure (record_bare seq)

unfoldable pub set_created_at_fields : ℕ → Parser Change
set_created_at_fields version = do
  t ← read_stamp version
  pure (set_created_at t)

unfoldable pub set_marks_fields : Parser Change
set_marks_fields = do
  t ← read_marks
  pure (set_marks t)

unfoldable pub read_change : ℕ → Parser Change
read_change version =
    named change
    ((ChangeKind.set_incoming, set_incoming_fields)
    ∷ (ChangeKind.set_incoming_in_flight, set_incoming_in_flight_fields)
    ∷ (ChangeKind.set_in_flight, set_in_flight_fields)
    ∷ (ChangeKind.record_msg, record_msg_fields)
    ∷ (ChangeKind.record_bare, record_bare_fields)
    ∷ (ChangeKind.reset, pure reset)
    ∷ (ChangeKind.set_created_at, set_created_at_fields version)
    ∷ (ChangeKind.set_marks, set_marks_fields)
    ∷ [])

unfoldable pub read_changes : ℕ → Parser (List Change)
read_changes version = do
  n ← read_count 1
  many n (read_change version)

-- ---- parts of frames

unfoldable pub read_kinds : Parser (List ℕ)
read_kinds = do
  n ← read_count 2
  many n (read_num 2)

unfoldable pub read_app_record : Parser AppRecord
read_app_record = do
  k ← read_num 2
  bs ← read_blob
  pure (record { kind = k; blob = bs })

unfoldable pub read_app_records : Parser (List AppRecord)
read_app_records = do
  n ← read_count 6
  many n read_app_record

unfoldable pub read_part : Parser Part
read_part = named part ((PartByte.commit, pure commit) ∷ (PartByte.whole, pure whole) ∷ (PartByte.last_whole, pure last_whole) ∷ [])

unfoldable pub read_reason : Parser Reason
read_reason = named refusal ((ReasonByte.stale_epoch, pure stale_epoch) ∷ (ReasonByte.diverged, pure diverged) ∷ (ReasonByte.lag_too_great, pure lag_too_great) ∷ (ReasonByte.restarted, pure restarted) ∷ [])

-- the four texts, then the key is judged
unfoldable pub read_key : Parser Key
read_key = do
  begin ← read_text
  sender ← read_text
  target ← read_text
  suffix ← read_text
  cond (is_key begin sender target suffix) (pure (record { begin = begin; sender = sender; target = target; suffix = suffix })) (fail bad_session)

-- in flight 0 is none
abbrev pub flight : ℕ → Option ℕ
flight n = cond (eqb n 0) none (some n)

unfoldable pub read_summary : ℕ → Parser Summary
read_summary version = do
  next_out ← read_num 8
  next_in ← read_num 8
  in_flight ← read_num 8
  stamp_text ← read_stamp_or_none version
  marks_text ← read_marks
  last_outgoing ← read_num 8
  pure (record { next_out = next_out; next_in = next_in; in_flight = flight in_flight; stamp_text = stamp_text; marks_text = marks_text; last_outgoing = last_outgoing })

-- ---- the frames

unfoldable pub hello_fields : Parser Frame
hello_fields = do
  version ← read_num 2
  epoch ← read_num 8
  node ← read_text
  ks ← read_kinds
  pure (hello version epoch node ks)

unfoldable pub welcome_fields : Parser Frame
welcome_fields = do
  epoch ← read_num 8
  incarnation ← read_num 8
  pure (welcome epoch incarnation)

unfoldable pub bind_fields : Parser Frame
bind_fields = do
  handle ← read_num 4
  epoch ← read_num 8
  maxLag ← read_num 8
  k ← read_key
  pure (bind handle epoch maxLag k)

unfoldable pub batch_fields : ℕ → Parser Frame
batch_fields version = do
  handle ← read_num 4
  epoch ← read_num 8
  commitNo ← read_num 8
  p ← read_part
  cs ← read_changes version
  rs ← read_app_records
  pure (batch handle epoch commitNo p cs rs)

unfoldable pub ack_fields : Parser Frame
ack_fields = do
  handle ← read_num 4
  commitNo ← read_num 8
  pure (ack handle commitNo)

unfoldable pub nack_fields : Parser Frame
nack_fields = do
  handle ← read_num 4
  why ← read_reason
  pure (nack handle why)

unfoldable pub bound_fields : ℕ → Parser Frame
bound_fields version = do
  handle ← read_num 4
  m ← read_summary version
  pure (bound handle m)

unfoldable pub checked_fields : Parser Frame
checked_fields = do
  handle ← read_num 4
  epoch ← read_num 8
  incarnation ← read_num 8
  pure (checked handle epoch incarnation)

unfoldable pub read_fields : ℕ → Parser Frame
read_fields version =
    named frameKind
    ((FrameKind.hello, hello_fields)
    ∷ (FrameKind.welcome, welcome_fields)
    ∷ (FrameKind.bind, bind_fields)
    ∷ (FrameKind.batch, batch_fields version)
    ∷ (FrameKind.ack, ack_fields)
    ∷ (FrameKind.nack, nack_fields)
    ∷ (FrameKind.bound, bound_fields version)
    ∷ (FrameKind.checked, checked_fields)
    ∷ [])

-- nothing is left over
abbrev pub at_end : Frame → Parser Frame
at_end f [] = ok f []
at_end f (x ∷ xs) = bad truncated

unfoldable pub read_body : ℕ → Parser Frame
read_body version = do
  f ← read_fields version
  at_end f

abbrev pub decoded_as : ℕ → Res Frame → Decoded
decoded_as n (ok f s) = got f n
decoded_as n (bad e) = faulty e

-- the frame at the start of the bytes
unfoldable pub decode : ℕ → List ℕ → Decoded
decode version s =
    let n = le (take 4 s) in
    cond (ltb (length s) 4) more
    (cond (ltb max_body n) (faulty (too_long n))
    (cond (ltb (length s - 4) n) more
    (decoded_as (4 + n) (read_body version (take n (drop 4 s))))))
