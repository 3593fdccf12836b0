-- The claim, for every list of calls from making on. Assumes nothing.
use mathlib.Core.Path.{◌≡◌, refl, sym}
use mathlib.Core.List.{List, [], ◌∷◌}
use mathlib.Core.Option.{Option, none, some}
use Prim.Native.Nat.{ℕ, zero, suc, ◌<◌, ◌≤◌}
use native.Mathlib.Omega.{arith}
use Rattle.model_quorum.specs.History.{QuorumCall, Figure, acked_by, accepted}
use Rattle.model_quorum.specs.Counts.{Count, new_quorum, figure_of, step, kept, shown}
use Rattle.model_quorum.specs.Claim.{ShowsFigure, QuorumClaim}
use Rattle.model_quorum.proofs.Joins.{Joined}
use Rattle.model_quorum.proofs.Steps.{Joins, right}

module _ (n k : ℕ) (some-k : 1 ≤ k) (few : n ≤ 5) where
  none_acked : (h i x : ℕ) → acked_by i h x [] ≡ 0
  none_acked h zero x = refl
  none_acked h (suc i) x = omega (arith, none_acked h i x)

  made : Joins n k [] (new_quorum n k)
  made = record {
    members = refl;
    needed = refl;
    deposed = refl;
    many = refl;
    each = λ h. record { unbound = refl; figure = record { held = λ more. absurd (never more); largest = λ y more e. absurd (clash e (none_acked h n y)) } };
  }
    where
      never : 0 < 0 → ⊥
      never z = omega arith

      clash : {i : ℕ} → k ≤ i → i ≡ 0 → ⊥
      clash e z = omega arith

  pub joins : (calls : List QuorumCall) → Joins n k (accepted n calls) (kept n k calls)
  joins [] = made
  joins (c ∷ calls) = (right n k some-k few (accepted n calls) (kept n k calls) (joins calls) c).joins

  shows : (h : ℕ) (past : List QuorumCall) (o : Option Count) → Joined n k h past o → ShowsFigure n k h past (figure_of o)
  shows h past none j = j.unbound
  shows h past (some c) j = (j.bound, j.figure)

  pub claim : (calls : List QuorumCall) → QuorumClaim n k calls
  claim calls = record {
    refusals = λ c. (right n k some-k few (accepted n calls) (kept n k calls) (joins calls) c).refusal;
    figures = λ h. shows h (accepted n calls) ((kept n k calls).counts h) ((joins calls).each h);
  }
