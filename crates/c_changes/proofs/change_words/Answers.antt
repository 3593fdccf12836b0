use Rattle.std.proofs.Common.{refl}
use Rattle.c_store.proofs.Laws.{made_words}
use Rattle.c_changes.proofs.change_words.Goals as goal

pub returns : goal.returns
returns g c =
    λ f d. made_words refl c.in-Ok.ensures.in_use (rw (c.in-Ok.ensures.shape, c.in-Ok.ensures.words, c.in-Ok.ensures.bytes) at c.spot-spot.ensures) c.change.new.arg2 refl c.change.auto.arg2
    (λ y. d _ _ y (rw (c.in-Ok.ensures.shape, c.in-Ok.ensures.words, c.in-Ok.ensures.bytes) at c.spot-spot.ensures).words_part (record { shown = _; shows = refl; left = _; met = c.change.ensures; leaves = refl }))
