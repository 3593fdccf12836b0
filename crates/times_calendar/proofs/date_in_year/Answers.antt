use Rattle.std.proofs.Common.{rules, arith}
use Rattle.times_calendar.proofs.Months.{start, next, found, last}
use Rattle.times_calendar.proofs.date_in_year.Goals as goal

pub loop-month-init : goal.loop-month-init
loop-month-init c = start c.args.year c.args.day c.requires

pub returns-then-left-days : goal.returns-then-left-days
returns-then-left-days c = found c.args.year c.args.day c.loop-month.month c.loop-month.left (search rules) c.loop-month.invariant c.month_days-days.ensures (search rules) c.if-left-days.true

pub loop-month-preserved : goal.loop-month-preserved
loop-month-preserved c = next c.args.year c.args.day c.loop-month.month c.loop-month.left (search rules) c.loop-month.invariant c.month_days-days.ensures (search rules) c.if-left-days.false

pub returns : goal.returns
returns c = last c.args.year c.args.day c.loop-month.month c.loop-month.left (omega arith) c.loop-month.invariant
