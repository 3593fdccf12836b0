use Rattle.frames_lowest.proofs.Laws.{tells}
use Rattle.frames_lowest.proofs.tell_in.Goals as goal

pub returns : goal.returns
returns c = tells c.args.line.now c.args.counters c.args.row c.args.words.now c.args.bytes.now c.args.holds.now c.args.out.now c.hear-heard.result.answer c.hear-heard.ensures c.put_heard.ensures
