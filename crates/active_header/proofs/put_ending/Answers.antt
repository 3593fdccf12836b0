use Rattle.active_header.proofs.Ends.{put_no_changes}
use Rattle.active_header.proofs.put_ending.Goals as goal

pub returns-else-last : goal.returns-else-last
returns-else-last c = rw c.if-last.false (put_no_changes _)
