use Rattle.frame_utf8.proofs.Bits.{three_bytes}
use Rattle.frame_utf8.proofs.code_three.Goals as goal

pub returns : goal.returns
returns c = three_bytes _ _ c.wide.ensures c.wide-2.ensures _ c.wide-3.ensures
