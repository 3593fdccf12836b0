-- What the code's frames stand for, over the buffer b that they were read from: spans and runs as the bytes and items that they mark. Assumes nothing.
use Rattle.std.specs.Prelude as prelude
use Rattle.std.specs.Prelude.{ℕ, ◌≡◌, Bool, true, ◌&&◌, List, take, Result, Ok, Err, Some, None}
use Rattle.std.proofs.Math.Option.{Option}
use Rattle.model_frame.specs.Frame as the_frame
use Rattle.model_frame.specs.Frame.{hello, welcome, bind, batch, ack, nack, bound, checked, more, faulty, got}
use Rattle.model_frame.specs.Parse.{read_num}
use Rattle.model_frame.specs.Reading.{read_change, read_app_record}
use Rattle.frame_reader.specs.declared.FrameError.{FrameError}
use Rattle.frame_reader.specs.Answers.{fault_of, span_of}
use Rattle.frame_op.specs.Answers.{run_of, HasLength}
use Rattle.frame_fields.specs.Answers.{part_of, reason_of, key_of, summary_of}
use Rattle.frame_writer.specs.Encoding.{span_fits, run_reads, key_fits, summary_fits, frame_if}
use Rattle.frame_fields.specs.declared.Batch.{Batch}
use Rattle.frame.specs.declared.Frame.{Frame}

abbrev pub batch_of : ℕ → List ℕ → Batch → the_frame.Frame
batch_of version b x =
    batch x.handle x.epoch.0 x.commit_no.0 (part_of x.part) (run_of (read_change version) b x.ops) (run_of read_app_record b x.app_records)

abbrev pub frame_of : ℕ → List ℕ → Frame → the_frame.Frame
frame_of version b (Frame.Hello v e node ks) = hello v e.0 (span_of b node) (run_of (read_num 2) b ks)
frame_of version b (Frame.Welcome e i) = welcome e.0 i.0
frame_of version b (Frame.Bind h e lag k) = bind h e.0 lag (key_of b k)
frame_of version b (Frame.Bound h m) = bound h (summary_of b m)
frame_of version b (Frame.Batch x) = batch_of version b x
frame_of version b (Frame.Ack h n) = ack h n.0
frame_of version b (Frame.Nack h r) = nack h (reason_of r)
frame_of version b (Frame.Checked h e i) = checked h e.0 i.0

-- a frame is read from the bytes it took
abbrev pub reading_of : ℕ → List ℕ → Result (prelude.Option (Frame × ℕ)) FrameError → the_frame.Decoded
reading_of version b (Ok (Some x)) = got (frame_of version (take x.1 b) x.0) x.1
reading_of version b (Ok None) = more
reading_of version b (Err e) = faulty (fault_of e)

-- ---- writing: what a frame's spans and runs stand for in a source slice, where they lie in it and can be read

abbrev pub readable : ℕ → List ℕ → Frame → Bool
readable version src (Frame.Hello v e node ks) = span_fits src node && run_reads (read_num 2) src ks
readable version src (Frame.Welcome e i) = true
readable version src (Frame.Bind h e lag k) = key_fits src k
readable version src (Frame.Bound h m) = summary_fits src m
readable version src (Frame.Batch x) = run_reads (read_change version) src x.ops && run_reads read_app_record src x.app_records
readable version src (Frame.Ack h n) = true
readable version src (Frame.Nack h r) = true
readable version src (Frame.Checked h e i) = true

abbrev pub frame_in : ℕ → List ℕ → Frame → Option the_frame.Frame
frame_in version src f = frame_if (readable version src f) (frame_of version src f)

-- ---- reading, then writing: what was read stands in the bytes

-- the changes of a batch have their length
abbrev pub Sized : ℕ → List ℕ → Frame → Type 0
Sized version b (Frame.Hello v e node ks) = Unit {0}
Sized version b (Frame.Welcome e i) = Unit {0}
Sized version b (Frame.Bind h e lag k) = Unit {0}
Sized version b (Frame.Bound h m) = Unit {0}
Sized version b (Frame.Batch x) = HasLength version b x.ops
Sized version b (Frame.Ack h n) = Unit {0}
Sized version b (Frame.Nack h r) = Unit {0}
Sized version b (Frame.Checked h e i) = Unit {0}

abbrev pub ReadIn : ℕ → List ℕ → Frame → Type 0
ReadIn version b f = (readable version b f ≡ true) × Sized version b f

-- a frame of n bytes stands in the bytes that it took, and in all the bytes it is the same frame
pub record Stands (version : ℕ) (b : List ℕ) (f : Frame) (n : ℕ) : Type 0 where
  pub own : readable version (take n b) f ≡ true
  pub all : readable version b f ≡ true
  pub same : frame_of version b f ≡ frame_of version (take n b) f
  pub sized : Sized version b f

abbrev pub StandsIn : ℕ → List ℕ → Result (prelude.Option (Frame × ℕ)) FrameError → Type 0
StandsIn version b (Ok (Some x)) = Stands version b x.0 x.1
StandsIn version b (Ok None) = Unit {0}
StandsIn version b (Err e) = Unit {0}
