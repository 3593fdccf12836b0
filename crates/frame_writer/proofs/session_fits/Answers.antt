use Rattle.frame_writer.proofs.Fits.{session_says}
use Rattle.frame_writer.proofs.session_fits.Goals as goal

pub returns : goal.returns
returns c =
    session_says c.args.src.now c.args.session c.within.ensures c.within-2.ensures c.within-3.ensures c.within-4.ensures
    (rw (c.slice.ensures, c.slice-2.ensures, c.slice-3.ensures, c.slice-4.ensures) at c.is_key.ensures)
