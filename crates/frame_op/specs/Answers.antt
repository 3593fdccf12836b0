-- What the code's answers stand for, over the buffer b that was read: spans and runs as the bytes and items that they mark. Assumes nothing.
use Rattle.std.specs.Prelude.{ℕ, ◌+◌, ◌≡◌, List, length, drop, Result, Ok, Err}
use Rattle.model_frame.specs.Frame.{Change, set_incoming, set_incoming_in_flight, set_in_flight, record_msg, record_bare, reset, set_created_at, set_marks}
use Rattle.model_frame.specs.Parse.{ok, bad, Parser, ◌>>=◌, read_count, many, collect, run_bytes}
use Rattle.model_frame.specs.Reading.{read_change}
use Rattle.model_frame.specs.Sizes.{sizes}
use Rattle.base_laws.specs.Wrote.{StandsAt}
use Rattle.frame_reader.specs.declared.FrameError.{FrameError}
use Rattle.frame_reader.specs.Answers.{fault_of, span_of}
use Rattle.frame_op.specs.declared.Op.{Op}
use Rattle.frame_op.specs.declared.Run.{Run}

abbrev pub op_of : List ℕ → Op → Change
op_of b (Op.SetNextIncoming n) = set_incoming n
op_of b (Op.SetNextIncomingInFlight n f) = set_incoming_in_flight n f
op_of b (Op.SetInFlight f) = set_in_flight f
op_of b (Op.Record n p) = record_msg n (span_of b p)
op_of b (Op.RecordNone n) = record_bare n
op_of b Op.Reset = reset
op_of b (Op.SetCreatedAt p) = set_created_at (span_of b p)
op_of b (Op.SetMarks p) = set_marks (span_of b p)

-- the items of a run
abbrev pub run_of : {A : Type 0} → Parser A → List ℕ → Run → List A
run_of p b r = collect r.count p (drop r.at b)

-- a run that was read can be read again, to where it ended
abbrev pub RunIn : {A : Type 0} → Parser A → List ℕ → ℕ → Run → Type 0
RunIn p b end r = many r.count p (drop r.at b) ≡ ok (run_of p b r) (drop end b)

-- the length of a run of changes is that of its changes, written
abbrev pub HasLength : ℕ → List ℕ → Run → Type 0
HasLength version b r = r.len ≡ sizes (run_of (read_change version) b r)

-- the length of a run is that of its items, written
abbrev pub IsSized : {A : Type 0} → Parser A → (A → List ℕ) → List ℕ → Run → Type 0
IsSized p f b r = r.len ≡ length (run_bytes f (run_of p b r))

-- a count of items and the items
abbrev pub counted : {A : Type 0} → ℕ → Parser A → Parser (List A)
counted least p = do
  n ← read_count least
  many n p

-- how many bytes so many items at a position take: they are the items, written; or the fault that reading them meets
abbrev pub RunTakes : {A : Type 0} → Parser A → (A → List ℕ) → List ℕ → ℕ → ℕ → Result ℕ FrameError → Type 0
RunTakes p f b at count (Ok n) =
    (many count p (drop at b) ≡ ok (collect count p (drop at b)) (drop (at + n) b))
    × StandsAt b at n (run_bytes f (collect count p (drop at b)))
RunTakes p f b at count (Err e) = many count p (drop at b) ≡ bad (fault_of e)

-- the changes read one after the other until the bytes end or one can't be read: each takes a byte at least
unfoldable pub held_run : ℕ → List ℕ → List Change
held_run version s = collect (length s) (read_change version) s
