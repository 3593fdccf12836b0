-- Up to five standbys (request U12): what is right, of the history of accepted calls alone. Assumes nothing.
use Rattle.std.specs.Prelude.{◌≡◌, ℕ, zero, suc, ◌+◌, ◌≤◌, ◌<◌, Bool, true, false, cond, ◌&&◌, ◌||◌, List, [], ◌∷◌, eqb, leb, ltb}

-- A handle is bound at all members together; a number is sent on a handle; a member acknowledges a number on a handle
-- (`ack member handle number`); a member answers StaleEpoch. Members are numbered from 0.
pub data QuorumCall : Type 0 where
  bind : ℕ → QuorumCall
  sent : ℕ → ℕ → QuorumCall
  ack : ℕ → ℕ → ℕ → QuorumCall
  stale : ℕ → QuorumCall

-- n standbys, at most five, and a quorum k from 1 to n
abbrev pub max_members : ℕ
max_members = 5

abbrev pub is_quorum : ℕ → ℕ → Bool
is_quorum n k = leb 1 n && (leb n max_members && (leb 1 k && leb k n))

-- A history: the accepted calls, the latest first.

-- whether handle h was bound
abbrev pub is_bound : ℕ → List QuorumCall → Bool
is_bound h [] = false
is_bound h (bind g ∷ past) = eqb h g || is_bound h past
is_bound h (sent g x ∷ past) = is_bound h past
is_bound h (ack m g x ∷ past) = is_bound h past
is_bound h (stale m ∷ past) = is_bound h past

-- the most handles that can be bound
abbrev pub max_handles : ℕ
max_handles = 256

-- how many handles were bound, each counted once
abbrev pub handles : List QuorumCall → ℕ
handles [] = 0
handles (bind h ∷ past) = cond (is_bound h past) (handles past) (suc (handles past))
handles (sent h x ∷ past) = handles past
handles (ack m h x ∷ past) = handles past
handles (stale m ∷ past) = handles past

-- the last number sent on handle h since its binding, 0 if there is none
abbrev pub last_sent : ℕ → List QuorumCall → ℕ
last_sent h [] = 0
last_sent h (bind g ∷ past) = cond (eqb h g) 0 (last_sent h past)
last_sent h (sent g x ∷ past) = cond (eqb h g) x (last_sent h past)
last_sent h (ack m g x ∷ past) = last_sent h past
last_sent h (stale m ∷ past) = last_sent h past

-- whether member m acknowledged x or a later number on handle h since its binding
abbrev pub has_acked : ℕ → ℕ → ℕ → List QuorumCall → Bool
has_acked h m x [] = false
has_acked h m x (bind g ∷ past) = cond (eqb h g) false (has_acked h m x past)
has_acked h m x (sent g y ∷ past) = has_acked h m x past
has_acked h m x (ack l g y ∷ past) = (eqb h g && (eqb m l && leb x y)) || has_acked h m x past
has_acked h m x (stale l ∷ past) = has_acked h m x past

-- how many of the first n members did
abbrev pub acked_by : ℕ → ℕ → ℕ → List QuorumCall → ℕ
acked_by zero h x past = 0
acked_by (suc n) h x past = cond (has_acked h n x past) 1 0 + acked_by n h x past

-- x is the largest number that at least k of n members acknowledged, it or a later one; 0 if there is none
pub record Figure (n k h : ℕ) (past : List QuorumCall) (x : ℕ) : Type 0 where
  pub held : 0 < x → k ≤ acked_by n h x past
  pub largest : (y : ℕ) → 0 < y → k ≤ acked_by n h y past → y ≤ x

abbrev pub is_deposed : List QuorumCall → Bool
is_deposed [] = false
is_deposed (bind g ∷ past) = is_deposed past
is_deposed (sent g x ∷ past) = is_deposed past
is_deposed (ack m g x ∷ past) = is_deposed past
is_deposed (stale m ∷ past) = true

-- the history before the first StaleEpoch: every figure stays what it then was
abbrev pub until_deposed : List QuorumCall → List QuorumCall
until_deposed [] = []
until_deposed (c ∷ past) = cond (is_deposed (c ∷ past)) (until_deposed past) (c ∷ past)

-- 37: an n or k outside theirs, an unknown member, an unbound handle, a 257th handle
abbrev pub outside_quorum : ℕ
outside_quorum = 37

-- 38: a number sent that isn't the last plus 1, an Ack of one not sent since the binding
abbrev pub out_of_sequence : ℕ
out_of_sequence = 38

-- what a call is refused with after a history, with n members; 0 if it is accepted
unfoldable pub refusal_of : ℕ → List QuorumCall → QuorumCall → ℕ
refusal_of n past (bind h) = cond (is_bound h past || ltb (handles past) max_handles) 0 outside_quorum
refusal_of n past (sent h x) = cond (is_bound h past) (cond (eqb x (suc (last_sent h past))) 0 out_of_sequence) outside_quorum
refusal_of n past (ack m h x) = cond (ltb m n) (cond (is_bound h past) (cond (leb 1 x && leb x (last_sent h past)) 0 out_of_sequence) outside_quorum) outside_quorum
refusal_of n past (stale m) = cond (ltb m n) 0 outside_quorum

-- the history with one call more, if it is accepted
abbrev pub after : ℕ → List QuorumCall → QuorumCall → List QuorumCall
after n past c = cond (eqb (refusal_of n past c) 0) (c ∷ past) past

-- the history of a list of calls, the latest first
abbrev pub accepted : ℕ → List QuorumCall → List QuorumCall
accepted n [] = []
accepted n (c ∷ cs) = after n (accepted n cs) c
