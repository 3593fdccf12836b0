use Rattle.std.proofs.Common.{◌≡◌, ℕ, ◌+◌, ◌-◌, ◌∙◌, sym, arith, rules}
use Rattle.std.proofs.lemmas.List.{length-replicate}
use Rattle.standby_row.proofs.Walk.{start, past_free, past_used, over}
use Rattle.standby_row.proofs.spots_in.Goals as goal

pub loop-at-init : goal.loop-at-init
loop-at-init g c = start c.args.row.now c.args.handle c.args.places c.args.room g.row.CELLS _ _ _ (length-replicate {A = ℕ} g.row.CELLS 0) (length-replicate {A = ℕ} g.row.CELLS 0) (search rules)

pub loop-at-preserved-then-is_used : goal.loop-at-preserved-then-is_used
loop-at-preserved-then-is_used g c =
    let next : c.loop-at.at ≡ c.loop-at.at - 1 + 1 = omega arith in
    rw (c.choose-own.ensures, c.choose-broken.ensures, c.breaks_rules.ensures, c.stays_apart-apart.ensures, c.spread-number.ensures)
    (past_used (c.loop-at.at - 1) next c.loop-at.invariant c.requires (sym c.is_used.ensures ∙ c.if-is_used.true))

pub loop-at-preserved : goal.loop-at-preserved
loop-at-preserved g c =
    let next : c.loop-at.at ≡ c.loop-at.at - 1 + 1 = omega arith in
    past_free (c.loop-at.at - 1) next c.loop-at.invariant (sym c.is_used.ensures ∙ c.if-is_used.false)

pub returns : goal.returns
returns g c = over c.loop-at.invariant (omega arith)
