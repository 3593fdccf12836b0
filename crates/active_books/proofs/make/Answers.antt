use Rattle.active_books.proofs.Calling.{made_new}
use Rattle.active_books.proofs.make.Goals as goal

pub returns : goal.returns
returns c = made_new c.args.words.now c.if-words-lt-WORDS.false
