-- Up to five standbys: what is kept of each handle, and what a call does to it. Assumes nothing.
use Rattle.std.specs.Prelude.{ℕ, zero, suc, ◌+◌, max, Bool, true, false, cond, ◌&&◌, ◌||◌, List, [], ◌∷◌, get_or, set, eqb, leb, ltb}
use Rattle.std.proofs.Math.Option.{Option, none, some}
use Rattle.model_quorum.specs.History.{QuorumCall, bind, sent, ack, stale, max_handles, outside_quorum, out_of_sequence}

-- of a handle: the last number sent, the figure shown, the largest number that each member acknowledged
pub record Count : Type 0 where
  pub last : ℕ
  pub figure : ℕ
  pub acks : List ℕ

-- n members, the quorum k, whether the active is deposed, how many handles are bound, and what is kept of each; none for an unbound one
pub record Quorum : Type 0 where
  pub members : ℕ
  pub needed : ℕ
  pub deposed : Bool
  pub handles : ℕ
  pub counts : ℕ → Option Count

-- how many of the first n members acknowledged x or a later number
abbrev pub at_least : ℕ → ℕ → List ℕ → ℕ
at_least zero x acks = 0
at_least (suc n) x acks = cond (leb x (get_or acks n 0)) 1 0 + at_least n x acks

-- the largest of the first i numbers that at least k of n members acknowledged, them or later ones
abbrev pub largest_of : ℕ → ℕ → ℕ → List ℕ → ℕ
largest_of zero n k acks = 0
largest_of (suc i) n k acks = cond (leb k (at_least n (get_or acks i 0) acks)) (max (largest_of i n k acks) (get_or acks i 0)) (largest_of i n k acks)

-- what is kept of handle h becomes c, that of the others stays
abbrev pub put : ℕ → Count → (ℕ → Option Count) → ℕ → Option Count
put h c counts g = cond (eqb g h) (some c) (counts g)

-- what a call answers, 0 if it is accepted, and what is kept then
pub record QuorumResult : Type 0 where
  pub refusal : ℕ
  pub quorum : Quorum

abbrev pub refuse : ℕ → Quorum → QuorumResult
refuse r q = record { refusal = r; quorum = q }

-- accepted: m handles are bound then, and c is kept of handle h
abbrev pub accept : Quorum → ℕ → ℕ → Count → QuorumResult
accept q m h c = record {
  refusal = 0;
  quorum = record { members = q.members; needed = q.needed; deposed = q.deposed; handles = m; counts = put h c q.counts };
}

abbrev pub no_acks : List ℕ
no_acks = 0 ∷ 0 ∷ 0 ∷ 0 ∷ 0 ∷ []

abbrev pub new_quorum : ℕ → ℕ → Quorum
new_quorum n k = record { members = n; needed = k; deposed = false; handles = 0; counts = λ h. none }

-- a binding begins anew; once deposed the figure stays
abbrev pub bound : Quorum → ℕ → Option Count → QuorumResult
bound q h none = cond (ltb q.handles max_handles) (accept q (suc q.handles) h (record { last = 0; figure = 0; acks = no_acks })) (refuse outside_quorum q)
bound q h (some c) = accept q q.handles h (record { last = 0; figure = cond q.deposed c.figure 0; acks = no_acks })

abbrev pub sending : Quorum → ℕ → ℕ → Option Count → QuorumResult
sending q h x none = refuse outside_quorum q
sending q h x (some c) = cond (eqb x (suc c.last)) (accept q q.handles h (record { last = x; figure = c.figure; acks = c.acks })) (refuse out_of_sequence q)

-- an older Ack changes nothing; once deposed none does
abbrev pub acking : Quorum → ℕ → ℕ → ℕ → Option Count → QuorumResult
acking q m h x none = refuse outside_quorum q
acking q m h x (some c) =
    cond (leb 1 x && leb x c.last)
    (cond (q.deposed || leb x (get_or c.acks m 0)) (refuse 0 q)
    (accept q q.handles h (record { last = c.last; figure = largest_of q.members q.members q.needed (set c.acks m x); acks = set c.acks m x })))
    (refuse out_of_sequence q)

unfoldable pub step : Quorum → QuorumCall → QuorumResult
step q (bind h) = bound q h (q.counts h)
step q (sent h x) = sending q h x (q.counts h)
step q (ack m h x) = cond (ltb m q.members) (acking q m h x (q.counts h)) (refuse outside_quorum q)
step q (stale m) =
    cond (ltb m q.members)
    (record { refusal = 0; quorum = record { members = q.members; needed = q.needed; deposed = true; handles = q.handles; counts = q.counts } })
    (refuse outside_quorum q)

-- what is kept after a list of calls, the latest first
abbrev pub kept : ℕ → ℕ → List QuorumCall → Quorum
kept n k [] = new_quorum n k
kept n k (c ∷ cs) = (step (kept n k cs) c).quorum

-- the figure shown; none for an unbound handle
abbrev pub figure_of : Option Count → Option ℕ
figure_of none = none
figure_of (some c) = some c.figure

abbrev pub shown : Quorum → ℕ → Option ℕ
shown q h = figure_of (q.counts h)
