use Rattle.model_text.specs.Utf8.{fitting, least}
use Rattle.model_text.proofs.Tables.{formed_four}
use Rattle.frame_utf8.proofs.is_four.Goals as goal

pub returns : goal.returns
unfolding fitting least
returns c = formed_four _ _ c.is_tail.ensures _ c.is_tail-2.ensures _ c.is_tail-3.ensures c.code_four.ensures c.is_fitting.ensures
