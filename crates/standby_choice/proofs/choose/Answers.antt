use Rattle.standby_choice.proofs.Laws.{kept, broken, takes}
use Rattle.standby_choice.proofs.choose.Goals as goal

pub returns-then-not-are_sound : goal.returns-then-not-are_sound
returns-then-not-are_sound c = broken c.args.copies.now c.are_sound.ensures c.if-not-are_sound.true

pub first_that_fits-requires : goal.first_that_fits-requires
first_that_fits-requires c = kept c.args.copies.now c.are_sound.ensures c.if-not-are_sound.false

pub returns : goal.returns
returns c = takes c.args.copies.now c.are_sound.ensures c.if-not-are_sound.false c.first_that_fits.ensures c.ok_or.ensures.value
