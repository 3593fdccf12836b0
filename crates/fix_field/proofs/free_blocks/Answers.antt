use Rattle.std.proofs.Common.{rules, tests, arith, sym, ap, ◌∙◌, ◌≡◌, ◌*◌, ◌<◌, true, false, not, ℕ, List, take, drop}
use Rattle.fix_field.proofs.Scan.{at_item, gathered}
use Rattle.fix_field.proofs.free_blocks.Goals as goal

pub returns-clause-free : goal.returns-clause-free
returns-clause-free c = λ k less.
    let w = c.count.ensures.runs in
    let p = w.0 in
    let t = c.take_while.ensures.runs p p.seen w.1 in
    let q = t.0 in
    let within : k < p.len = omega (arith, w.3) in
    let chunks = c.chunks_exact.ensures.runs q q.seen (rw t.1 (omega (arith, c.chunks_exact.ensures.size))) in
    at_item (p.at k) (q.at k) _ (p.reads k c.args.text within) (t.2.1 k within) ((t.2.2 (λ a r f called. search (rules, tests))).0 k) (chunks.2 k)
    (λ y passed cut.
    let is : y.now ≡ take 32 (drop (k * 32) c.args.text.now) = rw (t.1, c.chunks_exact.ensures.size, c.chunks_exact.ensures.rest) at cut.2.0 in
    let free : true ≡ not (gathered false y.now) = search (rules, tests) in
    ap (λ (l : List ℕ). not (gathered false l)) (sym is) ∙ sym free)
