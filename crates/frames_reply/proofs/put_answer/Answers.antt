use Rattle.std.proofs.Common.{length}
use Rattle.frames_reply.proofs.Laws.{text_done, text_reply, text_refused}
use Rattle.frames_reply.proofs.put_answer.Goals as goal

pub returns-then-answer-eq0-2 : goal.returns-then-answer-eq0-2
returns-then-answer-eq0-2 c = text_done c.args.protocol.version (length c.args.buf.now) c.args.bytes.now c.args.answer c.args.out.now c.if-answer-eq0.true c.if-answer-eq0-2.true

pub returns-then-answer-eq0 : goal.returns-then-answer-eq0
returns-then-answer-eq0 c = text_reply c.args.protocol.version (length c.args.buf.now) c.args.bytes.now c.args.answer c.args.out.now c.if-answer-eq0.true c.if-answer-eq0-2.false c.put_reply.ensures

pub returns : goal.returns
returns c = text_refused c.args.protocol.version (length c.args.buf.now) c.args.bytes.now c.args.answer c.args.out.now c.if-answer-eq0.false c.put_refusal.ensures
