use Rattle.std.proofs.Common.{rules, arith}
use Rattle.times_calendar.proofs.Months.{none_before, sum_next, sum_ends}
use Rattle.times_calendar.proofs.days_before_month.Goals as goal

pub loop-earlier-init : goal.loop-earlier-init
loop-earlier-init c = (record { is = none_before c.args.year 1 (omega arith); most = omega arith }, omega arith)

pub loop-earlier-preserved : goal.loop-earlier-preserved
loop-earlier-preserved c = (sum_next c.args.year c.loop-earlier.earlier (search rules) c.loop-earlier.invariant.0 (search rules), omega arith)

pub returns : goal.returns
returns c =
    let i = c.loop-earlier.invariant in
    record { is = sum_ends c.args.year c.args.month c.loop-earlier.earlier (omega (arith, i.1)) i.0; most = omega (arith, i.0.most, i.1) }
