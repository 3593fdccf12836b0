use Rattle.screen_text.proofs.Laws.{adds_on}
use Rattle.screen_frame.proofs.put_batch.Goals as goal

pub returns : goal.returns
returns c = adds_on (adds_on (rw (c.part_words.ensures, c.from.ensures) at c.add_number.ensures) c.add_number-2.ensures) c.put_changes.ensures
