use Rattle.std.proofs.Common.{◌∙◌}
use Rattle.model_frame.proofs.Le.{are_bytes}
use Rattle.standby_changes.proofs.Held.{run_part}
use Rattle.standby_changes.proofs.run_of.Goals as goal

pub returns-clause-part : goal.returns-clause-part
returns-clause-part c = run_part _ c.args.buf.now c.args.run (are_bytes c.args.buf.now (λ i. (c.type_inv.buf i).fits)) c.requires (c.new-changes.ensures.run ∙ c.bytes_at.ensures)

pub invariant_of-result : goal.invariant_of-result
invariant_of-result c = record {
  takes_all =
      rw c.new-changes.ensures.protocol
      (run_part c.args.protocol.version c.args.buf.now c.args.run (are_bytes c.args.buf.now (λ i. (c.type_inv.buf i).fits)) c.requires (c.new-changes.ensures.run ∙ c.bytes_at.ensures)).all;
}
