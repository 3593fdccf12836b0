use Rattle.std.proofs.Common.{rules, refl, ◌≡◌, max}
use Rattle.active_batch.proofs.Planning.{planned}
use Rattle.active_batch.proofs.plan_from.Goals as goal

pub returns : goal.returns
returns c =
    let r = c.requires in
    let begins : c.max-next.result ≡ max c.args.from 1 = search rules in
    let o = c.opening_extent-opening in
    let e = c.ending_extent-ending in
    planned c.args.limit c.args.header.now c.args.log.now c.args.from _ _ c.measure-cut.result o.result e.result r.bytes_len_bound r.max_bound begins c.position_from-position.ensures c.measure-cut.ensures (o.ensures.spans _ refl) o.ensures.small (e.ensures.spans _ refl) e.ensures.small
