use Rattle.std.proofs.Common.{arith}
use Rattle.frames_shell.proofs.tell.Goals as goal

-- the text lies in its area
pub slice_bounds-add-end : goal.slice_bounds-add-end
slice_bounds-add-end g c = omega (arith, c.text_of-t.ensures)
