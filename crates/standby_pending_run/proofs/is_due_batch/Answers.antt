use Rattle.std.proofs.Common.{arith, ◌∙◌}
use borrow.Author.Tests.{le-leb}
use Rattle.standby_pending.specs.Pending.{count_of}
use Rattle.standby_pending_run.proofs.Due.{full, not_full}
use Rattle.standby_pending_run.proofs.is_due_batch.Goals as goal

pub returns-then-words-ge-MAX_HELD_COMMITS : goal.returns-then-words-ge-MAX_HELD_COMMITS
returns-then-words-ge-MAX_HELD_COMMITS c = le-leb 64 (count_of c.args.words.now) (omega arith) ∙ full c.args.words.now c.args.handle (omega arith) (omega arith) (omega arith)

pub returns-else-words-ge-MAX_HELD_COMMITS : goal.returns-else-words-ge-MAX_HELD_COMMITS
returns-else-words-ge-MAX_HELD_COMMITS c = c.pends_on.ensures ∙ not_full c.args.words.now c.args.handle (omega arith) (omega arith)
