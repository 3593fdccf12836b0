use Rattle.std.proofs.Common.{arith}
use Rattle.store_place.proofs.Promotion.{tested, has_b, full_b, more_b, only_b}
use Rattle.store_place.proofs.put_b.Goals as goal

pub returns-then-ends_in_b-clause-is : goal.returns-then-ends_in_b-clause-is
returns-then-ends_in_b-clause-is c =
    let a = c.args in
    has_b a.bytes.now a.n c.requires.in_bounds c.requires.n_bound _ (tested a.bytes.now a.n c.requires.in_bounds c.requires.n_bound _ c.ends_in_b.ensures) c.if-ends_in_b.true

pub returns-then-n-ge-MARKS_SIZE-clause-only : goal.returns-then-n-ge-MARKS_SIZE-clause-only
returns-then-n-ge-MARKS_SIZE-clause-only c = only_b c.args.bytes.now c.args.n c.requires.in_bounds c.requires.n_bound 63 (omega arith)

pub returns-then-n-ge-MARKS_SIZE-clause-is : goal.returns-then-n-ge-MARKS_SIZE-clause-is
returns-then-n-ge-MARKS_SIZE-clause-is c =
    let a = c.args in
    full_b a.bytes.now a.n c.requires.in_bounds c.requires.n_bound _ (tested a.bytes.now a.n c.requires.in_bounds c.requires.n_bound _ c.ends_in_b.ensures) c.if-ends_in_b.false c.if-n-ge-MARKS_SIZE.true

pub returns-clause-only : goal.returns-clause-only
returns-clause-only c = only_b c.args.bytes.now c.args.n c.requires.in_bounds c.requires.n_bound c.args.n (omega arith)

pub returns-clause-is : goal.returns-clause-is
returns-clause-is c =
    let a = c.args in
    more_b a.bytes.now a.n c.requires.in_bounds c.requires.n_bound _ (tested a.bytes.now a.n c.requires.in_bounds c.requires.n_bound _ c.ends_in_b.ensures) c.if-ends_in_b.false c.if-n-ge-MARKS_SIZE.false
