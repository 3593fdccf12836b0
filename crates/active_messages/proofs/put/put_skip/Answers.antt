use Rattle.active_messages.proofs.Putting.{put_skipped, skip_nothing}
use Rattle.active_messages.proofs.put.put_skip.Goals as goal

pub returns-then-next-n : goal.returns-then-next-n
returns-then-next-n c = put_skipped _ _ c.if-next-n.true c.tagged.ensures.put

pub returns-else-next-n : goal.returns-else-next-n
returns-else-next-n c = skip_nothing _ _ _ c.if-next-n.false
