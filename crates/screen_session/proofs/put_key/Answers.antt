use Rattle.std.proofs.Common.{List, ℕ, ◌++◌, ap, append-nil, refl, codes}
use Rattle.screen_text.proofs.Laws.{flows_on}
use Rattle.screen_session.proofs.put_key.Goals as goal

pub returns : goal.returns
returns c =
    let k = c.args.key.now in
    flows_on _ c.flow_right-number.ensures refl
    (flows_on _ c.flow-begin.ensures (ap (λ (l : List ℕ). codes " " ++ l) (append-nil k.begin.now))
    (flows_on _ c.flow-sender.ensures (ap (λ (l : List ℕ). codes " " ++ l) (append-nil k.sender.now))
    (flows_on _ c.flow-target.ensures (ap (λ (l : List ℕ). codes "-> " ++ l) (append-nil k.target.now)) c.put_suffix.ensures)))
