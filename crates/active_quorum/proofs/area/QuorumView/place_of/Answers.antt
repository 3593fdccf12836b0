use Rattle.std.proofs.Common.{arith, sym}
use Rattle.active_quorum.proofs.Laws.{starts, hit, strays, goes_on, ended}
use Rattle.active_quorum.proofs.area.QuorumView.place_of.Goals as goal

pub loop-i-init : goal.loop-i-init
loop-i-init c = starts c.args.self.now.words.now c.args.handle c.args.self.now.rules.count

pub returns-then-h-handle-clause-found : goal.returns-then-h-handle-clause-found
returns-then-h-handle-clause-found c = hit c.args.self.now.words.now c.args.handle c.loop-i.below c.loop-i.i (omega arith) c.loop-i.invariant c.if-h-handle.true

pub returns-then-h-handle-2-clause-unbound : goal.returns-then-h-handle-2-clause-unbound
returns-then-h-handle-2-clause-unbound c = sym (strays c.args.self.now.words.now c.args.handle c.loop-i.below c.loop-i.i (omega arith) c.loop-i.invariant c.if-h-handle.false c.if-h-handle-2.true)

pub loop-i-preserved : goal.loop-i-preserved
loop-i-preserved c = goes_on c.args.self.now.words.now c.args.handle c.loop-i.below c.loop-i.i (omega arith) c.loop-i.invariant c.if-h-handle.false c.if-h-handle-2.false

pub returns-clause-unbound : goal.returns-clause-unbound
returns-clause-unbound c = sym (ended c.args.self.now.words.now c.args.handle c.loop-i.below c.loop-i.i (omega arith) c.loop-i.invariant)
