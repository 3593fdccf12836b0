use Rattle.std.proofs.Common.{sym, ◌∙◌, arith}
use Rattle.std.proofs.lemmas.Result.{err_from_is_err_and}
use Rattle.fix_message.proofs.Judging.{opened, ended, told_three, no_three, not_opened, not_ended, told_some, told_none, told_error, not_three_digits, false_length, false_sum, message_is}
use Rattle.fix_message.proofs.read_message.Goals as goal

pub returns-in_err-o : goal.returns-in_err-o
returns-in_err-o c =
    let p = err_from_is_err_and c.from_residual.result c.from_residual.ensures.1 in
    rw (p.1, p.2, told_error _ _ _ c.in_err-o.ensures.value)
    (not_opened c.args.file.now c.args.at c.find_start.result (told_none _ _ _ c.in_err-o.ensures.value) c.find_start.ensures)

pub returns-in_err-t : goal.returns-in_err-t
returns-in_err-t c =
    let o = opened c.args.file.now c.args.at c.find_start.result (told_some _ _ _ c.in_ok-o.ensures.value) c.find_start.ensures in
    let p = err_from_is_err_and c.from_residual-in_err-t.result c.from_residual-in_err-t.ensures.1 in
    rw (p.1, p.2, told_error _ _ _ c.in_err-t.ensures.value)
    (not_ended c.args.file.now c.args.at _ o c.find_end.result (told_none _ _ _ c.in_err-t.ensures.value) c.find_end.ensures)

pub returns-in_err-told : goal.returns-in_err-told
returns-in_err-told c =
    let o = opened c.args.file.now c.args.at c.find_start.result (told_some _ _ _ c.in_ok-o.ensures.value) c.find_start.ensures in
    let t = ended c.args.file.now _ c.find_end.result (told_some _ _ _ c.in_ok-t.ensures.value) c.find_end.ensures in
    let p = err_from_is_err_and c.from_residual-in_err-told.result c.from_residual-in_err-told.ensures.1 in
    rw (p.1, p.2, told_error _ _ _ c.in_err-told.ensures.value)
    (not_three_digits c.args.file.now c.args.at _ o _ t (no_three c.args.file.now _ _ c.read_three.result (told_none _ _ _ c.in_err-told.ensures.value) c.read_three.ensures))

pub returns-then-o-t : goal.returns-then-o-t
returns-then-o-t c =
    let o = opened c.args.file.now c.args.at c.find_start.result (told_some _ _ _ c.in_ok-o.ensures.value) c.find_start.ensures in
    let t = ended c.args.file.now _ c.find_end.result (told_some _ _ _ c.in_ok-t.ensures.value) c.find_end.ensures in
    let d = told_three c.args.file.now _ _ c.read_three.result (told_some _ _ _ c.in_ok-told.ensures.value) c.read_three.ensures in
    false_length c.args.file.now c.args.at _ o _ t (omega (arith, c.well_formed, c.ranges)) d.three c.if-o-t.true

pub returns-then-told-from : goal.returns-then-told-from
returns-then-told-from c =
    let o = opened c.args.file.now c.args.at c.find_start.result (told_some _ _ _ c.in_ok-o.ensures.value) c.find_start.ensures in
    let t = ended c.args.file.now _ c.find_end.result (told_some _ _ _ c.in_ok-t.ensures.value) c.find_end.ensures in
    let d = told_three c.args.file.now _ _ c.read_three.result (told_some _ _ _ c.in_ok-told.ensures.value) c.read_three.ensures in
    false_sum c.args.file.now c.args.at _ o _ t (omega (arith, c.well_formed, c.ranges)) d.three c.in_ok-told.told d (λ e. c.if-told-from.true (e ∙ sym c.sum.ensures ∙ sym c.from.ensures))

pub returns : goal.returns
returns c =
    let o = opened c.args.file.now c.args.at c.find_start.result (told_some _ _ _ c.in_ok-o.ensures.value) c.find_start.ensures in
    let t = ended c.args.file.now _ c.find_end.result (told_some _ _ _ c.in_ok-t.ensures.value) c.find_end.ensures in
    let d = told_three c.args.file.now _ _ c.read_three.result (told_some _ _ _ c.in_ok-told.ensures.value) c.read_three.ensures in
    message_is c.args.file.now c.args.at _ o _ t (omega (arith, c.well_formed, c.ranges)) d.three c.in_ok-told.told d c.if-o-t.false (c.if-told-from.false ∙ c.from.ensures ∙ c.sum.ensures)
