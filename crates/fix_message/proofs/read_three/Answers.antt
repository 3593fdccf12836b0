use Rattle.fix_message.proofs.Sequence.{not_three, three_digits}
use Rattle.fix_message.proofs.read_three.Goals as goal

pub returns-then-text-ne3 : goal.returns-then-text-ne3
returns-then-text-ne3 c = not_three c.args.text.now c.if-text-ne3.true

pub returns : goal.returns
returns c = three_digits c.args.text.now c.if-text-ne3.false c.read_number.result c.read_number.ensures
