use Rattle.std.proofs.Common.{sym, ◌∙◌}
use mathlib.Core.Path.{subst}
use Rattle.std.specs.Prelude.{ℕ, ◌<◌, get_or, List}
use Rattle.frame_fields.specs.Answers.{key_of}
use Rattle.standby_bind.proofs.Laws.{found_less, found_suits, new_suits}
use Rattle.standby_bind.proofs.suits.Goals as goal

pub suits-requires : goal.suits-requires
suits-requires c =
    let v = c.args.store.now in
    subst (λ (w : List ℕ). c.in-Some.place < get_or w 0 0) (sym c.view.ensures.words) (found_less v.shape (key_of c.args.frame.now c.args.session) v.words.now v.bytes.now c.of_byte.result.version (sym c.in-Some.is ∙ c.requires))

pub returns-in-Some : goal.returns-in-Some
returns-in-Some c =
    let v = c.args.store.now in
    rw (← c.of_byte.ensures) (found_suits v.shape (key_of c.args.frame.now c.args.session) v.words.now v.bytes.now c.of_byte.result.version (sym c.in-Some.is ∙ c.requires)
    (rw (c.view.ensures.shape, c.view.ensures.words, c.view.ensures.bytes) at c.suits.ensures))

pub returns-in-None : goal.returns-in-None
returns-in-None c =
    let v = c.args.store.now in
    new_suits v.shape (key_of c.args.frame.now c.args.session) v.words.now v.bytes.now _ (sym c.in-None.is ∙ c.requires)
