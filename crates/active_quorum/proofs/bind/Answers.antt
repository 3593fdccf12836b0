use Rattle.std.proofs.Common.{rules, arith, sym}
use Rattle.active_quorum.proofs.Calls.{bind_known, bind_full, bind_new, ends_as}
use Rattle.active_quorum.proofs.bind.Goals as goal

pub returns-in-Some : goal.returns-in-Some
returns-in-Some c = ends_as (search rules) (bind_known c.args.words.now c.args.handle c.in-Some.place.index c.in-Some.ensures.found c.count_at-c.result c.kept_figure-figure.result c.put_count.new.self.words.now c.in_ok-check_rules.ensures c.in-Some.place.within c.count_at-c.ensures c.kept_figure-figure.ensures c.put_count.ensures.puts)

pub returns-then-n-ge-MAX_HANDLES : goal.returns-then-n-ge-MAX_HANDLES
returns-then-n-ge-MAX_HANDLES c = bind_full c.args.words.now c.args.handle 256 (sym c.in_default.ensures.unbound) c.in_ok-check_rules.ensures (omega arith) (omega arith)

pub returns : goal.returns
returns c = ends_as (search rules) (bind_new c.args.words.now c.args.handle 256 (sym c.in_default.ensures.unbound) c.add.new.self.words.now c.in_ok-check_rules.ensures (omega arith) (omega arith) c.add.ensures.adds)
