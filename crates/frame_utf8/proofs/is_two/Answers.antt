use Rattle.model_text.specs.Utf8.{fitting, least}
use Rattle.model_text.proofs.Tables.{formed_two}
use Rattle.frame_utf8.proofs.is_two.Goals as goal

pub returns : goal.returns
unfolding fitting least
returns c = formed_two _ _ c.is_tail.ensures c.code_two.ensures c.is_fitting.ensures
