use Rattle.store_place.specs.Place.{key_from, stored_key}
use Rattle.store_place.proofs.key_in.Goals as goal

pub returns : goal.returns
unfolding stored_key
returns c = λ i. key_from (c.text_in.ensures i) (c.text_in-2.ensures i) (c.text_in-3.ensures i) (c.text_in-4.ensures i)
