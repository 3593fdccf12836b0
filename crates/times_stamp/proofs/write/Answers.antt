use Rattle.std.proofs.Common.{rules, arith, sym, ap, subst, ◌∙◌, ◌≡◌, ◌-◌, ◌++◌, length, take, drop}
use Rattle.model_times.specs.Times.{InCalendar, Written, lent, area_after, shortest_length, full_text, time_at}
use Rattle.model_times.proofs.Numbers.{in_calendar}
use Rattle.times_stamp.specs.Answers.{told, length_is}
use Rattle.times_stamp.proofs.Laws.{past_end, no_room, fits, text_length, put}
use Rattle.times_stamp.proofs.write.Goals as goal

pub returns-then-moment-ge-END-clause-answer : goal.returns-then-moment-ge-END-clause-answer
returns-then-moment-ge-END-clause-answer c =
    sym (ap (λ (x : Written). told (lent (length c.args.out.now) x)) (past_end c.args.moment.millis c.args.moment.picos c.then-moment-ge-END.either (omega arith) (omega arith)))

pub returns-then-moment-ge-END-clause-area : goal.returns-then-moment-ge-END-clause-area
returns-then-moment-ge-END-clause-area c =
    sym (ap (λ (x : Written). area_after (lent (length c.args.out.now) x) c.args.out.now) (past_end c.args.moment.millis c.args.moment.picos c.then-moment-ge-END.either (omega arith) (omega arith)))

pub returns-then-out-n-clause-answer : goal.returns-then-out-n-clause-answer
returns-then-out-n-clause-answer c =
    let e : c.shortest_length-n.result ≡ shortest_length (time_at c.args.moment.millis c.args.moment.picos) = c.shortest_length-n.ensures ∙ ap shortest_length c.time_at-time.ensures in
    sym (ap told (no_room c.args.moment.millis c.args.moment.picos (length c.args.out.now) (search rules) (search rules) e c.if-out-n.true))

pub returns-then-out-n-clause-area : goal.returns-then-out-n-clause-area
returns-then-out-n-clause-area c =
    let e : c.shortest_length-n.result ≡ shortest_length (time_at c.args.moment.millis c.args.moment.picos) = c.shortest_length-n.ensures ∙ ap shortest_length c.time_at-time.ensures in
    sym (ap (λ (x : Written). area_after x c.args.out.now) (no_room c.args.moment.millis c.args.moment.picos (length c.args.out.now) (search rules) (search rules) e c.if-out-n.true))

pub full_text-text-requires : goal.full_text-text-requires
full_text-text-requires c = subst InCalendar (sym c.time_at-time.ensures) (in_calendar c.args.moment.millis c.args.moment.picos (search rules) (search rules))

pub returns-clause-answer : goal.returns-clause-answer
returns-clause-answer c =
    let e : c.shortest_length-n.result ≡ shortest_length (time_at c.args.moment.millis c.args.moment.picos) = c.shortest_length-n.ensures ∙ ap shortest_length c.time_at-time.ensures in
    sym (ap told (fits c.args.moment.millis c.args.moment.picos (length c.args.out.now) (search rules) (search rules) e c.if-out-n.false)
    ∙ ap length_is (text_length (time_at c.args.moment.millis c.args.moment.picos) ∙ sym e))

pub returns-clause-area : goal.returns-clause-area
returns-clause-area c =
    let e : c.shortest_length-n.result ≡ shortest_length (time_at c.args.moment.millis c.args.moment.picos) = c.shortest_length-n.ensures ∙ ap shortest_length c.time_at-time.ensures in
    let f : c.full_text-text.result ≡ full_text (time_at c.args.moment.millis c.args.moment.picos) = c.full_text-text.ensures ∙ ap full_text c.time_at-time.ensures in
    let z : c.shortest_length-n.result - 0 ≡ c.shortest_length-n.result = omega arith in
    (λ i. c.copy_from_slice.new.self ++ drop (z i) c.args.out.now)
    ∙ put (time_at c.args.moment.millis c.args.moment.picos) c.shortest_length-n.result c.full_text-text.result c.args.out.now c.copy_from_slice.new.self e f
    (c.copy_from_slice.ensures.after ∙ (λ i. take (z i) c.full_text-text.result))
    ∙ sym (ap (λ (x : Written). area_after x c.args.out.now) (fits c.args.moment.millis c.args.moment.picos (length c.args.out.now) (search rules) (search rules) e c.if-out-n.false))
