use Rattle.std.proofs.Common.{drop, length-drop, refl, arith}
use Rattle.model_text.specs.Stamp.{is_digit}
use Rattle.fix_field.proofs.Pieces.{until_le}
use Rattle.fix_message.proofs.Skimming.{seeks_skip}
use Rattle.fix_message.proofs.find_sequence.Goals as goal

pub find_tagged-requires : goal.find_tagged-requires
unfolding is_digit
find_tagged-requires c = (omega arith, record { digits = refl; some = omega arith; no_zero = λ e. absurd (omega arith) })

pub overflow_add-i : goal.overflow_add-i
overflow_add-i c = omega (arith, c.next_end-i.ensures, until_le (drop c.loop-i.i c.args.file.now), length-drop c.loop-i.i c.args.file.now)

pub loop-i-preserved : goal.loop-i-preserved
loop-i-preserved c = seeks_skip c.args.file.now c.args.from c.loop-i.i c.loop-i.invariant (omega arith) c.in_default.ensures c.next_end-i.result c.next_end-i.ensures
