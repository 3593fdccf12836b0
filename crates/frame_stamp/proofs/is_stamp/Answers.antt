use mathlib.Core.Logic.{inl, inr}
use Rattle.std.proofs.Common.{rules, arith}
use Rattle.frame_stamp.proofs.Places.{says_seconds, says_fraction, says_none}
use Rattle.frame_stamp.proofs.is_stamp.Goals as goal

pub returns-in-17 : goal.returns-in-17
returns-in-17 c = says_seconds c.args.s.now c.is_date.ensures c.is_clock.ensures c.is_day.ensures c.in-17.is

pub returns-in-21 : goal.returns-in-21
returns-in-21 c = says_fraction c.args.s.now c.is_date-in-21.ensures c.is_clock-in-21.ensures c.is_day-in-21.ensures c.is_millis.ensures (inl c.in-21.is)

pub returns-in-24 : goal.returns-in-24
returns-in-24 c = says_fraction c.args.s.now c.is_date-in-24.ensures c.is_clock-in-24.ensures c.is_day-in-24.ensures c.is_fraction.ensures (inr c.in-24.is)

pub returns-in_default : goal.returns-in_default
returns-in_default c = says_none c.args.s.now (λ q. omega arith) (search rules)
