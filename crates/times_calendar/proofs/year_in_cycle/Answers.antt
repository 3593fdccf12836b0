use Rattle.std.proofs.Common.{rules, arith}
use Rattle.times_calendar.proofs.Cycle.{guessed, one_before}
use Rattle.times_calendar.proofs.year_in_cycle.Goals as goal

pub returns-then-years-guess : goal.returns-then-years-guess
returns-then-years-guess c =
    let f = guessed c.years-years.result.now c.years-years.ensures (search rules) c.args.r c.min-guess.result c.requires (search rules) (omega (arith, c.if-years-guess.true)) in
    record { inside = f.inside; split = f.split; before = f.before }

pub overflow_sub-result-2 : goal.overflow_sub-result-2
overflow_sub-result-2 c =
    let f = one_before c.years-years.result.now c.years-years.ensures (search rules) c.args.r c.min-guess.result c.requires (search rules) (omega (arith, c.if-years-guess.false)) in
    f.starts

pub returns : goal.returns
returns c =
    let f = one_before c.years-years.result.now c.years-years.ensures (search rules) c.args.r c.min-guess.result c.requires (search rules) (omega (arith, c.if-years-guess.false)) in
    record { inside = f.inside; split = f.split; before = f.before }
