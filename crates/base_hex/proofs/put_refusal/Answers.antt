use Rattle.std.proofs.Common.{arith}
use Rattle.base_hex.proofs.Laws.{one_digit, two_digits}
use Rattle.base_hex.proofs.put_refusal.Goals as goal

pub returns-then-n-lt10 : goal.returns-then-n-lt10
returns-then-n-lt10 c = one_digit c.args.n c.args.out.now (omega arith) (omega arith)

pub returns : goal.returns
returns c = two_digits c.args.n c.args.out.now (omega arith) (omega arith)
