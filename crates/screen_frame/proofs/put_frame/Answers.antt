use Rattle.screen_frame.proofs.Laws.{whole_there, line_short}
use Rattle.screen_frame.proofs.put_frame.Goals as goal

pub returns : goal.returns
returns c = let a = c.args in rw (← whole_there c.write_line-len.ensures (line_short a.number a.offset a.refusal _ _)) c.tell.ensures
