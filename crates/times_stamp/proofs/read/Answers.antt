use Rattle.std.proofs.Common.{rules, arith, sym, ◌∙◌, true, ◌≡◌, ◌+◌, ◌*◌}
use Rattle.model_text.specs.Stamp.{is_stamp}
use Rattle.model_times.specs.Times.{Time, number, picos_of}
use Rattle.times_stamp.specs.Answers.{time_of}
use Rattle.times_stamp.proofs.Laws.{no_stamp, no_number, long_enough, in_calendar, its_number, picos_are}
use Rattle.times_stamp.proofs.read.Goals as goal

pub returns-then-not-is_stamp : goal.returns-then-not-is_stamp
returns-then-not-is_stamp c = sym (no_stamp c.args.s.now (sym c.is_stamp.ensures ∙ c.if-not-is_stamp.true))

pub time_in-time-requires : goal.time_in-time-requires
time_in-time-requires c = long_enough c.args.s.now (sym c.is_stamp.ensures ∙ c.if-not-is_stamp.false)

pub returns-then-time-lt-FIRST_YEAR : goal.returns-then-time-lt-FIRST_YEAR
returns-then-time-lt-FIRST_YEAR c =
    sym (no_number c.args.s.now (sym c.is_stamp.ensures ∙ c.if-not-is_stamp.false) c.time_in-time.ensures c.then-time-lt-FIRST_YEAR.either (omega arith) (omega arith))

pub millis_of-requires : goal.millis_of-requires
millis_of-requires c = in_calendar c.args.s.now (sym c.is_stamp.ensures ∙ c.if-not-is_stamp.false) c.time_in-time.ensures (search rules) (search rules)

pub returns : goal.returns
returns c =
    let w : is_stamp c.args.s.now ≡ true = sym c.is_stamp.ensures ∙ c.if-not-is_stamp.false in
    let t : Time = time_of c.time_in-time.result in
    let p : (c.from.result * 1000 + c.from-2.result) * 1000 + c.from-3.result ≡ picos_of t = picos_are t (search rules) in
    (λ i. number (c.millis_of.ensures i) (p i)) ∙ sym (its_number c.args.s.now w c.time_in-time.ensures (search rules) (search rules))
