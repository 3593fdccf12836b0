use Rattle.std.proofs.Common.{[], refl, arith}
use Rattle.screen_text.proofs.Laws.{began}
use Rattle.screen_frame.proofs.Laws.{starts}
use Rattle.screen_frame.proofs.write_line.Goals as goal

pub returns : goal.returns
returns c = starts (c.put_line.ensures.has [] (began _ refl)) (omega (arith, c.put_line.ensures.long, c.told-area))
