-- A key whose four texts are lent. Assumes nothing.
use Rattle.model_frame.specs.Frame.{Key}
use Rattle.store_place.specs.Place.{key_from}
use Rattle.store_place.specs.declared.Key as lent

abbrev pub lent_key : lent.Key → Key
lent_key k = key_from k.begin.now k.sender.now k.target.now k.suffix.now
