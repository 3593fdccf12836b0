use Rattle.std.proofs.Common.{◌+◌, sym, subst, ℕ}
use Rattle.fix_field.specs.Reading.{Closes}
use Rattle.fix_field.proofs.Tags.{other_text, tagged_closes, told}
use Rattle.fix_field.proofs.find_tagged.Goals as goal

pub returns-then-not-starts_with : goal.returns-then-not-starts_with
returns-then-not-starts_with g c =
    other_text c.args.tag.now c.args.file.now c.args.at
    (told c.args.tag.now c.args.file.now c.args.at c.in_ok-text.text.now c.as_slice.result.now c.if-not-starts_with.ensures.value c.as_slice.ensures c.in_ok-text.ensures.lookup.0.2)

pub returns : goal.returns
returns g c =
    tagged_closes c.args.tag.now c.args.file.now c.args.at c.close_field.result
    (subst (λ (n : ℕ). Closes c.args.file.now (c.args.at + n) c.close_field.result) (sym c.told-tag) c.close_field.ensures)
    c.requires.tag
    (told c.args.tag.now c.args.file.now c.args.at c.in_ok-text.text.now c.as_slice.result.now c.if-not-starts_with.ensures.value c.as_slice.ensures c.in_ok-text.ensures.lookup.0.2)
