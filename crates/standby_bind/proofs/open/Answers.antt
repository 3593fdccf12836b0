use Rattle.std.proofs.Common.{◌≡◌, true, ℕ, sym, ◌∙◌, ◌||◌, get_or, ltb}
use mathlib.Core.Path.{ap}
use Rattle.std.specs.Prelude.{Option, is_some}
use borrow.Author.Tests.{ltb-true}
use Rattle.frame_fields.specs.Answers.{key_of}
use Rattle.standby_bind.proofs.Laws.{was_there, newly_at, newly_there}
use Rattle.standby_bind.proofs.open.Goals as goal

pub returns-in-Some-clause-is : goal.returns-in-Some-clause-is
returns-in-Some-clause-is c =
    let v = c.args.store.now in
    was_there v.shape (key_of c.args.frame.now c.args.session) v.words.now v.bytes.now v.rules (sym c.in-Some.is ∙ c.requires.found_value)

pub returns-in-None-clause-place : goal.returns-in-None-clause-place
returns-in-None-clause-place c =
    let v = c.args.store.now in
    c.«open».ensures.place ∙ newly_at v.shape (key_of c.args.frame.now c.args.session) v.words.now v.bytes.now v.rules (sym c.in-None.is ∙ c.requires.found_value)

pub returns-in-None-clause-is : goal.returns-in-None-clause-is
returns-in-None-clause-is c =
    let v = c.args.store.now in
    let k = c.key_in.ensures in
    let few : (ltb (get_or v.words.now 0 0) v.shape.places) ≡ true = sym (ap (λ (o : Option ℕ). is_some o || ltb (get_or v.words.now 0 0) v.shape.places) c.in-None.is) ∙ c.requires.room in
    newly_there v.shape (key_of c.args.frame.now c.args.session) v.words.now v.bytes.now v.rules (sym c.in-None.is ∙ c.requires.found_value) (λ j. record { begin = k.begin j; sender = k.sender j; target = k.target j; suffix = k.suffix j }) (ltb-true (get_or v.words.now 0 0) v.shape.places few) c.«open».ensures.is
