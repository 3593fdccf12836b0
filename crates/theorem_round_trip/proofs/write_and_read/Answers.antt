use Rattle.model_frame.proofs.Le.{are_bytes}
use Rattle.theorem_round_trip.proofs.Survives.{survives}
use Rattle.theorem_round_trip.proofs.write_and_read.Goals as goal

-- src/lib.rt:17:1
pub returns : goal.returns
returns c =
    survives c.args.protocol.version c.args.src.now c.args.frame c.args.area.now c.encode.new.out c.in_ok-written.written c.decode.result
    (are_bytes c.args.src.now (λ i. (c.type_inv.src i).fits))
    c.well_formed.0 c.in_ok-written.ensures c.decode.ensures.result_value
