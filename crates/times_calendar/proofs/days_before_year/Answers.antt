use Rattle.std.proofs.Common.{rules, arith, ◌≡◌, ◌+◌, ◌*◌}
use Rattle.model_times.specs.Days.{days_before_year}
use Rattle.times_calendar.proofs.Bounds.{most}
use Rattle.times_calendar.proofs.Cycle.{in_table}
use Rattle.times_calendar.proofs.days_before_year.Goals as goal

pub returns : goal.returns
returns c =
    let e : c.from.result * 146097 + c.from-2.result ≡ days_before_year c.args.year = in_table c.years-years.result.now c.years-years.ensures c.args.year (search rules) (search rules) (search rules) in
    record { is = e; most = omega (arith, e, most c.args.year) }
