use Rattle.times_calendar.proofs.Months.{Walk}
use Rattle.times_calendar.proofs.date_in_year.Given as goal

abbrev pub invariant-loop-month : goal.invariant-loop-month
invariant-loop-month l = Walk l.fn.year l.fn.day l.month l.left
