use Rattle.std.proofs.Common.{rules, arith, sym, ◌∙◌}
use Rattle.active_quorum.proofs.Calls.{sent_unbound, sent_wrong, sent_next, ends_as}
use Rattle.active_quorum.proofs.sent.Goals as goal

pub returns-in_default : goal.returns-in_default
returns-in_default c = sent_unbound c.args.words.now c.args.handle 256 (sym c.in_default.ensures.unbound) c.args.number.0 c.in_ok-check_rules.ensures (omega arith)

pub returns-then-not-follows : goal.returns-then-not-follows
returns-then-not-follows c = sent_wrong c.args.words.now c.args.handle c.in-Some.place.index c.in-Some.ensures.found c.args.number.0 c.count_at-c.result c.in_ok-check_rules.ensures c.in-Some.place.within c.count_at-c.ensures (sym c.follows.ensures ∙ c.if-not-follows.true)

pub returns : goal.returns
returns c = ends_as (search rules) (sent_next c.args.words.now c.args.handle c.in-Some.place.index c.in-Some.ensures.found c.args.number.0 c.count_at-c.result c.put_count.new.self.words.now c.in_ok-check_rules.ensures c.in-Some.place.within c.count_at-c.ensures (sym c.follows.ensures ∙ c.if-not-follows.false) c.put_count.ensures.puts)
