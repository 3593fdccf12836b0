use Rattle.fix_message.proofs.Sequence.{no_number, zero_read, top_read, number_read}
use Rattle.fix_message.proofs.read_sequence.Goals as goal
use Rattle.fix_message.proofs.read_sequence.Goals.{then-none-via-then-none, then-none-via-else-none+then-n}

pub returns-in_err-n : goal.returns-in_err-n
returns-in_err-n c = rw c.from_residual.ensures (no_number c.args.text.now c.in_err-n.ensures)

pub returns-then-none : goal.returns-then-none
returns-then-none c =
    elim c.then-none.branch [
      | then-none-via-then-none w ↦ zero_read c.args.text.now c.in_ok-n.n c.in_ok-n.ensures w.if-none.true
      | then-none-via-else-none+then-n w ↦ top_read c.args.text.now c.in_ok-n.n c.in_ok-n.ensures w.if-n.true
    ]

pub returns : goal.returns
returns c = number_read c.args.text.now c.in_ok-n.n c.in_ok-n.ensures c.if-none.false c.if-n.false
