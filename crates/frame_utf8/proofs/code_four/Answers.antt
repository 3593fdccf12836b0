use Rattle.frame_utf8.proofs.Bits.{four_bytes}
use Rattle.frame_utf8.proofs.code_four.Goals as goal

pub returns : goal.returns
returns c = four_bytes _ _ c.wide.ensures c.wide-2.ensures _ c.wide-3.ensures _ c.wide-4.ensures
