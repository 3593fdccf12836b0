use Rattle.screen_text.proofs.Laws.{adds_on}
use Rattle.screen_frame.proofs.put_key.Goals as goal

pub returns : goal.returns
returns c =
    adds_on (adds_on (adds_on (rw c.slice.ensures at c.add_words.ensures) (rw c.slice-2.ensures at c.add_words-2.ensures)) (rw c.slice-3.ensures at c.add_words-3.ensures)) (rw c.slice-4.ensures at c.put_suffix.ensures)
