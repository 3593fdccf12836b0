-- What is claimed of a figure shown after any list of calls from making on. Assumes nothing.
use Rattle.std.specs.Prelude.{◌≡◌, ℕ, ◌<◌, ◌≤◌, max, Bool, true, false, cond, ◌&&◌, ◌||◌, List, [], ◌∷◌, ◌++◌, length, eqb}
use Rattle.std.proofs.Math.Option.{Option, none, some}
use Rattle.model_quorum.specs.History.{QuorumCall, bind, sent, ack, stale, is_bound, last_sent, has_acked, is_deposed, until_deposed, accepted}
use Rattle.model_quorum.specs.Counts.{kept, shown}

-- whether a call binds handle h
abbrev pub is_bind : ℕ → QuorumCall → Bool
is_bind h (bind g) = eqb h g
is_bind h (sent g x) = false
is_bind h (ack m g x) = false
is_bind h (stale m) = false

-- the highest number that member m acknowledged on handle h since its binding
abbrev pub highest_acked : ℕ → ℕ → List QuorumCall → ℕ
highest_acked h m [] = 0
highest_acked h m (bind g ∷ past) = cond (eqb h g) 0 (highest_acked h m past)
highest_acked h m (sent g x ∷ past) = highest_acked h m past
highest_acked h m (ack l g x ∷ past) = cond (eqb h g && eqb m l) (max x (highest_acked h m past)) (highest_acked h m past)
highest_acked h m (stale l ∷ past) = highest_acked h m past

abbrev pub is_lost : ℕ → List ℕ → Bool
is_lost m [] = false
is_lost m (l ∷ ls) = eqb m l || is_lost m ls

-- a member that isn't lost acknowledged x or a later number
pub record Left (h x : ℕ) (past : List QuorumCall) (n : ℕ) (lost : List ℕ) : Type 0 where
  pub member : ℕ
  pub among : member < n
  pub kept : is_lost member lost ≡ false
  pub acked : has_acked h member x past ≡ true

-- of the figure x that is shown for handle h after these calls, the latest first
pub record Holds (n k : ℕ) (calls : List QuorumCall) (h x : ℕ) : Type 0 where
  -- before deposing it is at most the last number sent
  pub sent : is_deposed (accepted n calls) ≡ false → x ≤ last_sent h (accepted n calls)
  -- it never falls but by a binding of its handle
  pub rises : (c : QuorumCall) (y : ℕ) → is_bind h c ≡ false → shown (kept n k (c ∷ calls)) h ≡ some y → x ≤ y
  -- with fewer than k members lost one is left that acknowledged it or a later number
  pub left : 0 < x → (lost : List ℕ) → length lost < k → Left h x (until_deposed (accepted n calls)) n lost
  -- of one member it is the highest number acknowledged
  pub alone : n ≡ 1 → k ≡ 1 → is_deposed (accepted n calls) ≡ false → x ≡ highest_acked h 0 (accepted n calls)
  -- from deposing on it is that of the moment, for ever
  pub stays : is_deposed (accepted n calls) ≡ true → (more : List QuorumCall) → shown (kept n k (more ++ calls)) h ≡ some x

-- a handle that is first bound after deposing shows 0 for ever
abbrev pub Late : ℕ → ℕ → List QuorumCall → ℕ → Type 0
Late n k calls h =
    is_deposed (accepted n calls) ≡ true → is_bound h (accepted n calls) ≡ false → (more : List QuorumCall) (x : ℕ) → shown (kept n k (more ++ calls)) h ≡ some x → x ≡ 0
