use Rattle.std.proofs.Common.{refl, arith}
use Rattle.model_text.specs.Stamp.{is_digit}
use Rattle.fix_message.proofs.Beginning.{starts_not_8, opening_9, opening_no_number, opening_35, opening_is}
use Rattle.fix_message.proofs.find_start.Goals as goal

pub find_tagged-requires : goal.find_tagged-requires
unfolding is_digit
find_tagged-requires c = (omega arith, record { digits = refl; some = omega arith; no_zero = λ e. absurd (omega arith) })

pub returns-in_err-begin : goal.returns-in_err-begin
returns-in_err-begin c = rw c.from_residual.ensures (starts_not_8 c.args.file.now c.args.at c.in_err-begin.ensures)

pub find_tagged-requires-2 : goal.find_tagged-requires-2
unfolding is_digit
find_tagged-requires-2 c = (omega arith, record { digits = refl; some = omega arith; no_zero = λ e. absurd (omega arith) })

pub returns-in_err-length : goal.returns-in_err-length
returns-in_err-length c = rw c.from_residual-in_err-length.ensures (opening_9 c.args.file.now c.args.at _ _ c.in_ok-begin.ensures c.in_err-length.ensures)

pub returns-in_err-n : goal.returns-in_err-n
returns-in_err-n c = rw c.from_residual-in_err-n.ensures (opening_no_number c.args.file.now c.args.at _ _ c.in_ok-begin.ensures _ _ c.in_ok-length.ensures c.in_err-n.ensures)

pub find_tagged-requires-3 : goal.find_tagged-requires-3
unfolding is_digit
find_tagged-requires-3 c = (omega arith, record { digits = refl; some = omega arith; no_zero = λ e. absurd (omega arith) })

pub returns-in_err-kind : goal.returns-in_err-kind
returns-in_err-kind c = rw c.from_residual-in_err-kind.ensures (opening_35 c.args.file.now c.args.at _ _ c.in_ok-begin.ensures _ _ c.in_ok-length.ensures c.in_err-kind.ensures)

pub returns : goal.returns
returns c = opening_is c.args.file.now c.args.at _ _ c.in_ok-begin.ensures _ _ c.in_ok-length.ensures c.in_ok-n.n c.in_ok-n.ensures _ _ c.in_ok-kind.ensures
