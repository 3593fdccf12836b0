use Rattle.std.proofs.Common.{◌≡◌, ◌+◌, ◌∙◌, sym, ap, drop, get_or, List, ℕ, length-drop, arith}
use Rattle.model_fix.proofs.Grammar.{digits_le}
use Rattle.model_fix.specs.Field.{digits}
use Rattle.fix_field.proofs.Pieces.{first_byte, rest, rest_digits, field_closes, field_no_tag, field_zero}
use Rattle.fix_field.proofs.find_field.Goals as goal

pub returns-then-n-eq0 : goal.returns-then-n-eq0
returns-then-n-eq0 c =
    let file : List ℕ = c.args.file.now in
    let at : ℕ = c.args.at in
    let count : c.digits-n.result ≡ digits (drop at file) = rest_digits file at c.in_ok-text.text.now c.digits-n.ensures c.in_ok-text.ensures.lookup.0.2 in
    field_no_tag file at (at + c.digits-n.result) (omega arith) (omega arith)

pub returns-then-leading_zero : goal.returns-then-leading_zero
returns-then-leading_zero c =
    let file : List ℕ = c.args.file.now in
    let at : ℕ = c.args.at in
    let text : c.in_ok-text.text.now ≡ drop at file = c.in_ok-text.ensures.lookup.0.2 ∙ rest file at in
    let count : c.digits-n.result ≡ digits (drop at file) = rest_digits file at c.in_ok-text.text.now c.digits-n.ensures c.in_ok-text.ensures.lookup.0.2 in
    let eq : at + c.digits-n.result ≡ at + digits (drop at file) = omega arith in
    let zero : get_or c.in_ok-text.text.now 0 0 ≡ 48 = c.if-leading_zero.true in
    field_zero file at (at + c.digits-n.result) eq (sym (first_byte file at (at + c.digits-n.result) eq) ∙ ap (λ (t : List ℕ). get_or t 0 0) (sym text) ∙ zero)

pub overflow_add-at : goal.overflow_add-at
overflow_add-at c =
    omega (
      arith,
      c.in_ok-text.ensures.lookup.0.0,
      digits_le (drop c.args.at c.args.file.now),
      length-drop c.args.at c.args.file.now,
      rest_digits c.args.file.now c.args.at c.in_ok-text.text.now c.digits-n.ensures c.in_ok-text.ensures.lookup.0.2,
    )

pub returns : goal.returns
returns c =
    let file : List ℕ = c.args.file.now in
    let text : c.in_ok-text.text.now ≡ drop c.args.at file = c.in_ok-text.ensures.lookup.0.2 ∙ rest file c.args.at in
    field_closes file c.args.at c.digits-n.result c.close_field.result c.close_field.ensures
    (rest_digits file c.args.at c.in_ok-text.text.now c.digits-n.ensures c.in_ok-text.ensures.lookup.0.2)
    c.if-n-eq0.false
    (λ o. c.if-leading_zero.false (ap (λ (t : List ℕ). get_or t 0 0) text ∙ o))
