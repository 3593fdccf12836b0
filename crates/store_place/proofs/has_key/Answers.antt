use Rattle.std.proofs.Common.{ap, ◌∙◌}
use mathlib.Core.Bool.{◌&&◌}
use Rattle.model_standby.specs.Store.{same_key}
use Rattle.store_place.specs.Keys.{lent_key}
use Rattle.store_place.proofs.Keys.{same_is}
use Rattle.store_place.proofs.has_key.Goals as goal

pub returns : goal.returns
returns c =
    let k = c.args.sought.now in
    let s = c.key_in.result in
    let begin = same_is k.begin.now s.begin.now in
    let sender = same_is k.sender.now s.sender.now in
    let target = same_is k.target.now s.target.now in
    let suffix = same_is k.suffix.now s.suffix.now in
    c.eq.ensures ∙ (λ i. begin i && (sender i && (target i && suffix i))) ∙ ap (same_key (lent_key k)) c.key_in.ensures
