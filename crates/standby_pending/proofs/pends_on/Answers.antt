use Rattle.std.proofs.Common.{arith, rules, tests, ◌≡◌, ◌∙◌, ap, ℕ, eqb, take, drop, ◌%◌, ◌+◌, ◌-◌}
use Rattle.std.specs.List.{list_any}
use Rattle.std.proofs.lemmas.Iterator.{YieldsList-from_slice}
use Rattle.std.proofs.lemmas.Iterator.Search.{any_from_yields_List}
use Rattle.standby_pending.specs.Pending.{count_of, pending_of}
use Rattle.standby_pending.proofs.Laws.{any_pends}
use Rattle.standby_pending.proofs.pends_on.Goals as goal

pub returns : goal.returns
unfolding pending_of
returns c =
    let n = count_of c.args.words.now in
    let commits = drop 2 c.args.words.now in
    let all : 2 + n - 2 ≡ n = omega arith in
    let found : c.any.result ≡ list_any (λ (x : ℕ). eqb (x % 4294967296) c.args.handle) (take (2 + n - 2) commits) =
    any_from_yields_List (λ (x : ℕ). eqb (x % 4294967296) c.args.handle) _ _ c.any.result c.any.ensures.ran (YieldsList-from_slice (take (2 + n - 2) commits) cc) (λ x b q k. search (rules, tests)) in
    found ∙ ap (λ (k : ℕ). list_any (λ (x : ℕ). eqb (x % 4294967296) c.args.handle) (take k commits)) all ∙ any_pends c.args.handle (take n commits)
