use Rattle.frame_writer.proofs.Fits.{summary_says}
use Rattle.frame_writer.proofs.summary_fits.Goals as goal

pub returns : goal.returns
returns c = summary_says c.args.protocol.version c.args.src.now c.args.summary c.within.ensures c.within-2.ensures (rw c.slice-created_at.ensures at c.is_stamp_or_none-dated.ensures) (rw c.slice.ensures at c.is_marks.ensures)
