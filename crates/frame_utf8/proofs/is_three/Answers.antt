use Rattle.model_text.specs.Utf8.{fitting, least}
use Rattle.model_text.proofs.Tables.{formed_three}
use Rattle.frame_utf8.proofs.is_three.Goals as goal

pub returns : goal.returns
unfolding fitting least
returns c = formed_three _ _ c.is_tail.ensures _ c.is_tail-2.ensures c.code_three.ensures c.is_fitting.ensures
