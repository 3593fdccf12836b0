use Rattle.std.proofs.Common.{arith}
use Rattle.fix_field.proofs.Pieces.{closes, ends_within}
use Rattle.fix_field.proofs.close_field.Goals as goal

pub overflow_add-result : goal.overflow_add-result
overflow_add-result c = omega (arith, ends_within c.args.file.now c.args.eq c.next_end-to.result (omega arith) c.next_end-to.ensures)

pub returns : goal.returns
returns c = closes c.args.file.now c.args.eq c.next_end-to.result c.if-file-eq-ne61.false c.next_end-to.ensures c.if-to-eq.false (omega (arith, ends_within c.args.file.now c.args.eq c.next_end-to.result (omega arith) c.next_end-to.ensures))
