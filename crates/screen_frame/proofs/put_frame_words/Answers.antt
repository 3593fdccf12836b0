use Rattle.screen_text.proofs.Laws.{adds_on}
use Rattle.screen_frame.proofs.put_frame_words.Goals as goal

pub returns-in-Hello : goal.returns-in-Hello
returns-in-Hello c = rw c.in-Hello.is (adds_on (adds_on c.add_number.ensures (rw c.slice.ensures at c.add_words.ensures)) (rw c.from.ensures at c.add_number-in-Hello.ensures))

pub returns-in-Welcome : goal.returns-in-Welcome
returns-in-Welcome c = rw c.in-Welcome.is (adds_on c.add_number-in-Welcome.ensures c.add_number-in-Welcome-2.ensures)

pub returns-in-Bind : goal.returns-in-Bind
returns-in-Bind c = rw c.in-Bind.is (adds_on (adds_on (rw c.from-in-Bind.ensures at c.add_number-in-Bind.ensures) c.put_key.ensures) c.add_number-in-Bind-2.ensures)

pub returns-in-Bound : goal.returns-in-Bound
returns-in-Bound c = rw c.in-Bound.is (adds_on (adds_on (rw c.from-in-Bound.ensures at c.add_number-in-Bound.ensures) c.add_number-in-Bound-2.ensures) c.add_number-in-Bound-3.ensures)

pub returns-in-Checked : goal.returns-in-Checked
returns-in-Checked c = rw c.in-Checked.is (adds_on (adds_on (rw c.from-in-Checked.ensures at c.add_number-in-Checked.ensures) c.add_number-in-Checked-2.ensures) c.add_number-in-Checked-3.ensures)
