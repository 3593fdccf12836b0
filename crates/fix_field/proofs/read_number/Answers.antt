use Rattle.std.proofs.Common.{sym, arith}
use Rattle.model_text.specs.Stamp.{is_digit}
use Rattle.fix_field.proofs.Scan.{counts_bad, counts_on}
use Rattle.fix_field.proofs.read_number.Goals as goal

pub returns-then-not-is_ascii_digit : goal.returns-then-not-is_ascii_digit
unfolding is_digit
returns-then-not-is_ascii_digit c = counts_bad c.args.text.now c.loop-b.n c.loop-b.b-index c.loop-b.invariant (omega arith) (sym c.if-not-is_ascii_digit.ensures.value)

pub loop-b-preserved : goal.loop-b-preserved
unfolding is_digit
loop-b-preserved c = counts_on c.args.text.now c.loop-b.n c.loop-b.b-index c.loop-b.invariant (omega arith) (sym c.if-not-is_ascii_digit.ensures.value) c.with_digit-n.ensures
