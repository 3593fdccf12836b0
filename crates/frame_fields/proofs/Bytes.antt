-- A byte that was read, as the part or the reason that is written so. Assumes nothing.
use Rattle.std.specs.Prelude.{Result, Ok, Err}
use Rattle.std.proofs.Common.{arith}
use mathlib.Core.Path.{◌≡◌}
use mathlib.Core.List.{List}
use Prim.Native.Nat.{ℕ}
use borrow.Author.Tests.{ne_eqb}
use Rattle.model_frame.specs.Parse.{ok, read_num}
use Rattle.model_frame.specs.Reading.{read_part, read_reason}
use Rattle.frame_reader.specs.declared.FrameError.{FrameError}
use Rattle.frame_reader.specs.declared.Reader.{Reader}
use Rattle.frame_reader.specs.Answers.{rest, res}
use Rattle.frame_fields.specs.declared.Part.{Part}
use Rattle.frame_fields.specs.declared.NackReason.{NackReason}
use Rattle.frame_fields.specs.Answers.{part_of, PartBy, reason_of, ReasonBy}

module _ (at : Reader) (s : List ℕ) (k : ℕ) (e : ok k (rest at) ≡ read_num 1 s) where
  pub part_read : (r : Result Part FrameError) → PartBy k r → res part_of at r ≡ read_part s
  unfolding read_part
  part_read (Ok Part.Commit) h = rw (← e, h)
  part_read (Ok Part.Whole) h = rw (← e, h)
  part_read (Ok Part.LastWhole) h = rw (← e, h)
  part_read (Err x) h = rw (← e, h.0, ne_eqb k 0 (omega (arith, h.1)), ne_eqb k 1 (omega (arith, h.1)), ne_eqb k 2 (omega (arith, h.1)))

  pub reason_read : (r : Result NackReason FrameError) → ReasonBy k r → res reason_of at r ≡ read_reason s
  unfolding read_reason
  reason_read (Ok NackReason.StaleEpoch) h = rw (← e, h)
  reason_read (Ok NackReason.Diverged) h = rw (← e, h)
  reason_read (Ok NackReason.Lag) h = rw (← e, h)
  reason_read (Ok NackReason.Restarted) h = rw (← e, h)
  reason_read (Err x) h = rw (← e, h.0, ne_eqb k 1 (omega (arith, h.1)), ne_eqb k 2 (omega (arith, h.1)), ne_eqb k 3 (omega (arith, h.1)), ne_eqb k 4 (omega (arith, h.1)))
