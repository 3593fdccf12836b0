use mathlib.Core.Path.{sym, ◌∙◌}
use lib.ListN.{length-drop}
use Rattle.frame_writer.proofs.Fits.{numbers_read}
use Rattle.frame_writer.proofs.kinds_fit.Goals as goal

pub returns : goal.returns
returns c =
    let a = c.args in
    numbers_read 2 _ _ (c.left.ensures ∙ sym (length-drop a.run.at a.src.now))
