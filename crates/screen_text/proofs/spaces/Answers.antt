use Rattle.screen_text.proofs.Laws.{take_blanks}
use Rattle.screen_text.proofs.spaces.Goals as goal

pub returns : goal.returns
returns c = take_blanks c.args.n 48 c.requires
