use Rattle.std.proofs.Common.{rules, arith}
use Rattle.std.proofs.lemmas.Result.{err_from_is_err_and}
use Rattle.fix_file.proofs.Turns.{turn_bad, turn_low, judging, judges_fault, judges_on, judges_all, read_ok, read_err}
use Rattle.fix_file.proofs.judge_file.Goals as goal

pub loop-at-init : goal.loop-at-init
loop-at-init c = judging c.args.file.now

pub returns-in_err-m : goal.returns-in_err-m
returns-in_err-m c =
    let p = err_from_is_err_and c.from_residual.result c.from_residual.ensures.1 in
    let q = read_err c.args.file.now c.loop-at.at c.read_message.result _ _ c.read_message.ensures c.in_err-m.ensures.cases (λ e k. search rules) in
    rw (p.1, p.2, q.1) (judges_fault c.args.file.now c.loop-at.at c.loop-at.last c.loop-at.invariant _ (turn_bad c.args.file.now c.loop-at.at c.loop-at.last (omega arith) q.0))

pub returns-then-m-last : goal.returns-then-m-last
returns-then-m-last c =
    judges_fault c.args.file.now c.loop-at.at c.loop-at.last c.loop-at.invariant 30
    (turn_low c.args.file.now c.loop-at.at c.loop-at.last c.in_ok-m.m
    (read_ok c.args.file.now c.loop-at.at c.read_message.result c.in_ok-m.m c.read_message.ensures c.in_ok-m.ensures.cases) (omega arith))

pub loop-at-preserved : goal.loop-at-preserved
loop-at-preserved c =
    judges_on c.args.file.now c.loop-at.at c.loop-at.last c.loop-at.invariant c.in_ok-m.m
    (read_ok c.args.file.now c.loop-at.at c.read_message.result c.in_ok-m.m c.read_message.ensures c.in_ok-m.ensures.cases) (omega arith)

pub returns : goal.returns
returns c = judges_all c.args.file.now c.loop-at.at c.loop-at.last c.loop-at.invariant (omega arith)
