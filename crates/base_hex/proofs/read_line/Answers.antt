use Rattle.std.proofs.Common.{arith}
use Rattle.base_hex.proofs.Laws.{some_line, blank_line, long_line}
use Rattle.base_hex.proofs.read_line.Goals as goal

pub returns-in-1-to-16384 : goal.returns-in-1-to-16384
returns-in-1-to-16384 c = some_line _ _ _ (λ z. omega arith) (omega arith) c.read_digits.ensures

pub returns-in_default : goal.returns-in_default
returns-in_default c = blank_line _ _ (omega arith)

pub returns-in_default-2 : goal.returns-in_default-2
returns-in_default-2 c = long_line _ _ (omega arith)
