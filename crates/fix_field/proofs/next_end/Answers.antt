use Rattle.std.proofs.Common.{◌+◌, ap, drop, length-drop, arith, ℕ}
use Rattle.fix_field.proofs.Scan.{reaches_end, reaches_end_2}
use Rattle.fix_field.proofs.Pieces.{until_le, rest_end}
use Rattle.fix_field.proofs.next_end.Goals as goal

pub overflow_add-result : goal.overflow_add-result
overflow_add-result c =
    omega (arith, c.loop.invariant.within, rest_end c.args.file.now c.loop.i c.until_end.ensures, until_le (drop c.loop.i c.args.file.now), length-drop c.loop.i c.args.file.now)

pub returns-then-file-i-lt4 : goal.returns-then-file-i-lt4
returns-then-file-i-lt4 c = reaches_end c.args.file.now c.args.from c.loop.i c.loop.invariant (ap (λ (n : ℕ). c.loop.i + n) (rest_end c.args.file.now c.loop.i c.until_end.ensures))

pub overflow_add-result-2 : goal.overflow_add-result-2
overflow_add-result-2 c =
    omega (arith, c.skip_blocks-j.ensures.within, rest_end c.args.file.now c.skip_blocks-j.result c.until_end-2.ensures, until_le (drop c.skip_blocks-j.result c.args.file.now), length-drop c.skip_blocks-j.result c.args.file.now)

pub returns : goal.returns
returns c =
    reaches_end_2 c.args.file.now c.args.from c.loop.i c.loop.invariant c.skip_blocks-j.result c.skip_blocks-j.ensures
    (ap (λ (n : ℕ). c.skip_blocks-j.result + n) (rest_end c.args.file.now c.skip_blocks-j.result c.until_end-2.ensures))
