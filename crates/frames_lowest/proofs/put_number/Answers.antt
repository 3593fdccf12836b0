use Rattle.std.proofs.Common.{arith, rules, ◌≡◌, ◌≤◌, ℕ, List, length, subst}
use Rattle.std.specs.Prelude.{decimal}
use Rattle.base_hex.specs.Lines.{Puts}
use Rattle.frames_lowest.proofs.Laws.{few_digits, put_text}
use Rattle.frames_lowest.proofs.put_number.Goals as goal

pub returns : goal.returns
returns c =
    let e : c.as_bytes-digits.result.now ≡ decimal c.args.n = search rules in
    let few : length c.as_bytes-digits.result.now ≤ 20 = rw e (few_digits c.args.n (omega arith)) in
    subst (λ (t : List ℕ). Puts t c.args.out.now c.copy.new.out c.copy.result) e (put_text c.copy.ensures (omega (arith, few)))
