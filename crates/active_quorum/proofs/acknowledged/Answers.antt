use Rattle.std.proofs.Common.{rules, tests, arith, sym, ap, ◌≡◌, ◌≤◌, length}
use lib.ListN.{get_or, set, length-set}
use Rattle.model_quorum.specs.Counts as m
use Rattle.active_quorum.proofs.Calls.{ack_unknown, ack_unbound, ack_wrong, ack_old, ack_new, ends_as}
use Rattle.active_quorum.proofs.Held.{figure_so}
use Rattle.active_quorum.proofs.acknowledged.Goals as goal

pub returns-then-n-member : goal.returns-then-n-member
returns-then-n-member c = ack_unknown c.args.words.now c.args.member c.args.handle c.args.number.0 c.in_ok-check_rules.ensures (omega arith)

pub returns-in_default : goal.returns-in_default
returns-in_default c = ack_unbound c.args.words.now c.args.handle 256 (sym c.in_default.ensures.unbound) c.args.member c.args.number.0 c.in_ok-check_rules.ensures (omega arith) (omega arith)

pub returns-then-not-contains : goal.returns-then-not-contains
returns-then-not-contains c = ack_wrong c.args.words.now c.args.handle c.in-Some.place.index c.in-Some.ensures.found c.args.member c.args.number.0 c.count_at-c.result c.in_ok-check_rules.ensures (omega arith) c.in-Some.place.within c.count_at-c.ensures (search (rules, tests))

pub returns-then-words-x : goal.returns-then-words-x
returns-then-words-x c = ack_old c.args.words.now c.args.handle c.in-Some.place.index c.in-Some.ensures.found c.args.member c.args.number.0 c.count_at-c.result c.in_ok-check_rules.ensures (omega arith) c.in-Some.place.within c.count_at-c.ensures (search (rules, tests)) c.if-words-x.true

pub returns : goal.returns
returns c =
    let R = c.in_ok-check_rules.ensures in
    let five : length c.count_at-c.result.acks ≡ 5 = ap (λ (k : m.Count). length k.acks) c.count_at-c.ensures in
    let few : get_or c.args.words.now 0 0 ≤ length (set c.count_at-c.result.acks c.args.member c.args.number.0) = omega (arith, length-set c.count_at-c.result.acks c.args.member c.args.number.0, five) in
    ends_as (search rules) (ack_new c.args.words.now c.args.handle c.in-Some.place.index c.in-Some.ensures.found c.args.member c.args.number.0 c.count_at-c.result c.put_count.new.self.words.now c.largest_held-figure.result c.in_ok-check_rules.ensures (omega arith) c.in-Some.place.within c.count_at-c.ensures (search (rules, tests)) c.if-words-x.false (figure_so (set c.count_at-c.result.acks c.args.member c.args.number.0) _ _ _ few c.largest_held-figure.ensures) c.put_count.ensures.puts)
