use Rattle.std.proofs.Common.{arith, refl}
use Rattle.frame_utf8.proofs.Scan.{as_length, says_one, says_short, says_two, says_three, says_four, says_none}
use Rattle.frame_utf8.proofs.formed_length.Goals as goal

pub returns-then-n-eq1 : goal.returns-then-n-eq1
returns-then-n-eq1 c = let a = c.args in as_length (omega arith) (says_one a.s.now a.at a.n (omega arith)) refl

pub returns-then-s-at : goal.returns-then-s-at
returns-then-s-at c = let a = c.args in as_length refl (says_short a.s.now a.at a.n (omega arith) (omega arith)) refl

pub returns-then-n-eq2 : goal.returns-then-n-eq2
returns-then-n-eq2 c = let a = c.args in as_length (omega arith) (says_two a.s.now a.at a.n _ (omega arith) (omega arith) c.is_two.ensures) c.length_if.ensures

pub returns-then-n-eq3 : goal.returns-then-n-eq3
returns-then-n-eq3 c = let a = c.args in as_length (omega arith) (says_three a.s.now a.at a.n _ (omega arith) (omega arith) c.is_three.ensures) c.length_if-then-n-eq3.ensures

pub returns-then-n-eq4 : goal.returns-then-n-eq4
returns-then-n-eq4 c = let a = c.args in as_length (omega arith) (says_four a.s.now a.at a.n _ (omega arith) (omega arith) c.is_four.ensures) c.length_if-then-n-eq4.ensures

pub returns : goal.returns
returns c = let a = c.args in as_length refl (says_none a.s.now a.at a.n (omega arith)) refl
