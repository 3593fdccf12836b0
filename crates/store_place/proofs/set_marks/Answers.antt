use Rattle.std.proofs.Common.{arith}
use Rattle.model_text.proofs.Laws.{marks_is}
use Rattle.store_place.proofs.Logging.{marks_set}
use Rattle.store_place.proofs.set_marks.Goals as goal

pub put_text-requires-clause-text_len_bound : goal.put_text-requires-clause-text_len_bound
put_text-requires-clause-text_len_bound c = omega (arith, marks_is _ c.requires.text_value)

pub returns : goal.returns
returns c C M = rw c.put_text.ensures.length (marks_set C M c.args.text.now c.args.bytes.now c.put_text.new.bytes c.args.words.now (omega arith) c.put_text.ensures.text c.requires.text_value)
