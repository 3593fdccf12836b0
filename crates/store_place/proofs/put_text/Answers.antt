use Rattle.std.proofs.Common.{arith}
use Rattle.store_log.proofs.Ring.{copied}
use Rattle.store_place.proofs.Fields.{put_text}
use Rattle.store_place.proofs.put_text.Goals as goal

pub returns-clause-text : goal.returns-clause-text
returns-clause-text c = put_text _ _ _ _ _ c.requires.size_in_bounds c.requires.text_len_bound (copied _ _ _ _ _ (omega arith) c.copy.ensures)
