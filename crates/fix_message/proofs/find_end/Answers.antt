use Rattle.std.proofs.Common.{sym, ◌∙◌, arith}
use Rattle.model_fix.specs.Message.{tag10, tag34}
use Rattle.fix_field.proofs.Tags.{tag_is}
use Rattle.fix_message.proofs.Closing.{closes_bad, closes_ten, closes_without, closes_second, closes_no_number, closes_34, closes_on, closes_none}
use Rattle.fix_message.proofs.find_end.Goals as goal

pub returns-in_err-eq : goal.returns-in_err-eq
returns-in_err-eq c = rw c.from_residual.ensures (closes_bad c.args.file.now c.args.from c.loop-i.i c.loop-i.number c.loop-i.invariant c.in_err-eq.ensures)

pub returns-in_err-number : goal.returns-in_err-number
returns-in_err-number c =
    rw c.from_residual-in_err-number.ensures
    (closes_without c.args.file.now c.args.from c.loop-i.i c.loop-i.number c.loop-i.invariant _ _ c.in_ok-eq.ensures
    (sym (tag_is tag10 c.args.file.now c.loop-i.i _ _ c.in_ok-eq.ensures c.is_tag.ensures) ∙ c.if-is_tag.true) c.in_err-number.was)

pub returns-then-is_tag : goal.returns-then-is_tag
returns-then-is_tag c =
    closes_ten c.args.file.now c.args.from c.loop-i.i c.loop-i.number c.loop-i.invariant _ _ c.in_ok-eq.ensures
    (sym (tag_is tag10 c.args.file.now c.loop-i.i _ _ c.in_ok-eq.ensures c.is_tag.ensures) ∙ c.if-is_tag.true) c.in_ok-number.was

pub returns-then-is_some : goal.returns-then-is_some
returns-then-is_some c =
    closes_second c.args.file.now c.args.from c.loop-i.i c.loop-i.number c.loop-i.invariant _ _ c.in_ok-eq.ensures
    (sym (tag_is tag10 c.args.file.now c.loop-i.i _ _ c.in_ok-eq.ensures c.is_tag.ensures) ∙ c.if-is_tag.false)
    (sym (tag_is tag34 c.args.file.now c.loop-i.i _ _ c.in_ok-eq.ensures c.is_tag-in-loop-i.ensures) ∙ c.if-is_tag-2.true)
    (sym c.is_some.ensures ∙ c.if-is_some.true)

pub returns-in_err-read_sequence : goal.returns-in_err-read_sequence
returns-in_err-read_sequence c =
    rw c.from_residual-in_err-read_sequence.ensures
    (closes_no_number c.args.file.now c.args.from c.loop-i.i c.loop-i.number c.loop-i.invariant _ _ c.in_ok-eq.ensures
    (sym (tag_is tag10 c.args.file.now c.loop-i.i _ _ c.in_ok-eq.ensures c.is_tag.ensures) ∙ c.if-is_tag.false)
    (sym (tag_is tag34 c.args.file.now c.loop-i.i _ _ c.in_ok-eq.ensures c.is_tag-in-loop-i.ensures) ∙ c.if-is_tag-2.true)
    (sym c.is_some.ensures ∙ c.if-is_some.false) c.in_err-read_sequence.ensures)

pub loop-i-preserved-in_ok-read_sequence : goal.loop-i-preserved-in_ok-read_sequence
loop-i-preserved-in_ok-read_sequence c =
    closes_34 c.args.file.now c.args.from c.loop-i.i c.loop-i.number c.loop-i.invariant _ _ c.in_ok-eq.ensures
    (sym (tag_is tag10 c.args.file.now c.loop-i.i _ _ c.in_ok-eq.ensures c.is_tag.ensures) ∙ c.if-is_tag.false)
    (sym (tag_is tag34 c.args.file.now c.loop-i.i _ _ c.in_ok-eq.ensures c.is_tag-in-loop-i.ensures) ∙ c.if-is_tag-2.true)
    (sym c.is_some.ensures ∙ c.if-is_some.false) c.in_ok-read_sequence.ensures

pub loop-i-preserved : goal.loop-i-preserved
loop-i-preserved c =
    closes_on c.args.file.now c.args.from c.loop-i.i c.loop-i.number c.loop-i.invariant _ _ c.in_ok-eq.ensures
    (sym (tag_is tag10 c.args.file.now c.loop-i.i _ _ c.in_ok-eq.ensures c.is_tag.ensures) ∙ c.if-is_tag.false)
    (sym (tag_is tag34 c.args.file.now c.loop-i.i _ _ c.in_ok-eq.ensures c.is_tag-in-loop-i.ensures) ∙ c.if-is_tag-2.false)

pub returns : goal.returns
returns c = closes_none c.args.file.now c.args.from c.loop-i.i c.loop-i.number c.loop-i.invariant (omega arith)
