-- How many members hold a number, and the largest that enough of them hold, by the members' own part of the acknowledgements. Assumes nothing.
use mathlib.Core.Path.{◌≡◌, refl, sym, ap, ◌∙◌}
use mathlib.Core.Bool.{Bool, true, false, cond}
use mathlib.Core.List.{List}
use Prim.Native.Nat.{ℕ, zero, suc, ◌+◌, ◌-◌, ◌≤◌, max}
use native.Mathlib.Omega.{arith}
use native.Mathlib.Numerals.{add-one}
use lib.ListN.{length, get_or, take}
use lib.Seq.{take-length}
use lib.Dec.{leb}
use Rattle.std.specs.List.{filter, count_by}
use Rattle.std.proofs.lemmas.List.Sums.{length-filter, count_by_more_no, count_by_more_yes}
use Rattle.std.proofs.lemmas.List.{get_or-take, length-take-le}
use Rattle.model_quorum.specs.Counts.{at_least, largest_of}

counts_first : (acks : List ℕ) (x i : ℕ) → i ≤ length acks → count_by (leb x) (take i acks) ≡ at_least i x acks
counts_first acks x zero h = refl
counts_first acks x (suc i) h = go (leb x (get_or acks i 0)) refl (counts_first acks x i (omega arith))
  where
    go : (b : Bool) → leb x (get_or acks i 0) ≡ b → count_by (leb x) (take i acks) ≡ at_least i x acks → count_by (leb x) (take (suc i) acks) ≡ cond b 1 0 + at_least i x acks
    go true e r =
        let one : count_by (leb x) (take (i + 1) acks) ≡ count_by (leb x) (take i acks) + 1 = count_by_more_yes (leb x) acks i 0 (omega arith) e in
        ap (λ (n : ℕ). count_by (leb x) (take n acks)) (sym (add-one i)) ∙ omega (arith, one, r)
    go false e r =
        let none : count_by (leb x) (take (i + 1) acks) ≡ count_by (leb x) (take i acks) = count_by_more_no (leb x) acks i 0 (omega arith) e in
        ap (λ (n : ℕ). count_by (leb x) (take n acks)) (sym (add-one i)) ∙ omega (arith, none, r)

pub held_so : (acks : List ℕ) (x : ℕ) → length (filter (leb x) acks) ≡ at_least (length acks) x acks
held_so acks x =
    let all : take (length acks) acks ≡ acks = take-length acks in
    length-filter (leb x) acks ∙ sym (ap (count_by (leb x)) all) ∙ counts_first acks x (length acks) (omega arith)

least_same : (acks : List ℕ) (n x i : ℕ) → i ≤ n → at_least i x (take n acks) ≡ at_least i x acks
least_same acks n x zero h = refl
least_same acks n x (suc i) h =
    let ack : get_or (take n acks) i 0 ≡ get_or acks i 0 = get_or-take n acks i 0 (omega arith) in
    let rest : at_least i x (take n acks) ≡ at_least i x acks = least_same acks n x i (omega arith) in
    λ j. cond (leb x (ack j)) 1 0 + rest j

largest_same : (acks : List ℕ) (n k i : ℕ) → i ≤ n → largest_of i n k (take n acks) ≡ largest_of i n k acks
largest_same acks n k zero h = refl
largest_same acks n k (suc i) h =
    let ack : get_or (take n acks) i 0 ≡ get_or acks i 0 = get_or-take n acks i 0 (omega arith) in
    let held : at_least n (get_or (take n acks) i 0) (take n acks) ≡ at_least n (get_or acks i 0) acks = ap (λ (x : ℕ). at_least n x (take n acks)) ack ∙ least_same acks n (get_or acks i 0) n (omega arith) in
    let rest : largest_of i n k (take n acks) ≡ largest_of i n k acks = largest_same acks n k i (omega arith) in
    λ j. cond (leb k (held j)) (max (rest j) (ack j)) (rest j)

-- the members' own part of the acknowledgements says the same
pub figure_so : (acks : List ℕ) (n k r : ℕ) → n ≤ length acks → r ≡ largest_of (length (take (n - 0) acks)) (length (take (n - 0) acks)) k (take (n - 0) acks) → r ≡ largest_of n n k acks
figure_so acks n k r h e =
    let same : n - 0 ≡ n = omega arith in
    let size : length (take (n - 0) acks) ≡ n = ap (λ (m : ℕ). length (take m acks)) same ∙ length-take-le n acks h in
    e ∙ (λ j. largest_of (size j) (size j) k (take (same j) acks)) ∙ largest_same acks n k n (omega arith)
