use mathlib.Core.Path.{sym}
use Rattle.model_frame.proofs.Le.{are_bytes}
use Rattle.base_laws.proofs.Runs.{run_fault}
use Rattle.base_laws.proofs.StandsAt.{run_stands, run_past, run_forward}
use Rattle.frame_reader.proofs.Faults.{passed_on}
use Rattle.frame_op.proofs.run_len.Goals as goal

pub returns-in_err-skip : goal.returns-in_err-skip
returns-in_err-skip g c =
    rw (passed_on c.from_residual.result c.in_err-skip.field-0.0 c.from_residual.ensures) (sym (run_fault _ c.in_err-skip.ensures.read))

pub overflow_sub-result : goal.overflow_sub-result
overflow_sub-result g c =
    let item = g.T.Item in
    let v = c.args.protocol.version in
    let b = c.args.buf.now in
    let known = are_bytes b (λ i. (c.type_inv.buf i).fits) in
    let ended = rw c.skip.ensures.same at c.in_ok-skip.ensures.read in
    run_forward (item.parser v) item.bytes (λ _. Unit {0}) (g.met.T.Item.canon v) c.args.count b c.args.at c.skip.new.reader.at known ended c.left.ensures (rw c.skip.ensures.same at c.left-2.ensures)

pub returns : goal.returns
returns g c =
    let item = g.T.Item in
    let v = c.args.protocol.version in
    let b = c.args.buf.now in
    let known = are_bytes b (λ i. (c.type_inv.buf i).fits) in
    let ended = rw c.skip.ensures.same at c.in_ok-skip.ensures.read in
    let after = rw c.skip.ensures.same at c.left-2.ensures in
    let canon = g.met.T.Item.canon v in
    (run_past (item.parser v) item.bytes (λ _. Unit {0}) canon c.args.count b c.args.at c.skip.new.reader.at known ended c.left.ensures after, run_stands (item.parser v) item.bytes (λ _. Unit {0}) canon c.args.count b c.args.at c.skip.new.reader.at known ended c.left.ensures after)
