use Rattle.std.proofs.Common.{◌-◌, ◌≤◌}
use Rattle.times_calendar.proofs.Months.{Sum}
use Rattle.times_calendar.proofs.days_before_month.Given as goal

abbrev pub invariant-loop-earlier : goal.invariant-loop-earlier
invariant-loop-earlier l = Sum l.fn.year l.earlier l.days × (l.earlier - 1 ≤ l.fn.month - 1)
