use Rattle.std.proofs.Common.{arith, ◌∙◌}
use Rattle.frames_reply.proofs.Laws.{took_fits, put_digits, put_no}
use Rattle.frames_reply.proofs.put_reply.Goals as goal

pub slice_bounds-put_hex-end : goal.slice_bounds-put_hex-end
slice_bounds-put_hex-end c = omega (arith, took_fits _ _ _ c.in-Ok.ensures)

pub put_hex-requires : goal.put_hex-requires
put_hex-requires c = omega (arith, took_fits _ _ _ c.in-Ok.ensures)

pub overflow_mul-result : goal.overflow_mul-result
overflow_mul-result c = omega (arith, took_fits _ _ _ c.in-Ok.ensures)

pub returns-in-Ok : goal.returns-in-Ok
returns-in-Ok c = put_digits _ _ _ c.args.out.now c.write.auto.out c.in-Ok.ensures c.put_hex.ensures

pub returns-in-Err : goal.returns-in-Err
returns-in-Err c = put_no _ _ _ _ (c.number.ensures ∙ c.from.ensures) c.in-Err.ensures c.put_refusal.ensures
