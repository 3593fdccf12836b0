-- The lag queue: at most 64 wait, drained never falls, and what is drained leaves at most max_lag.
-- Assumes nothing.
use mathlib.Core.Path.{◌≡◌, refl}
use Prim.Native.Nat.{ℕ, zero, suc, ◌-◌, ◌≤◌}
use native.Mathlib.Omega.{arith}
use native.Mathlib.Nat.{le_trans, le_refl}
use mathlib.Core.List.{List, [], ◌∷◌, ◌++◌}
use mathlib.Core.Bool.{Bool, true, false, not, ◌||◌}
use lib.ListN.{length}
use lib.Dec.{T, ltb, nltb→le}
use Rattle.model_session.specs.Lag.{Queue, Pushed, new_queue, over, drain, push, push_all}
use Rattle.model_session.proofs.Basics.{cond_cases}

not_over : (a b : Bool) → T (not (a || b)) → T (not a) × T (not b)
not_over true b t = absurd t
not_over false b t = (tt, t)

-- from `low` on the numbers never fall, and are at most `high`
abbrev pub Climbs : ℕ → ℕ → List ℕ → Type 0
Climbs low high [] = low ≤ high
Climbs low high (x ∷ xs) = (low ≤ x) × Climbs x high xs

climbs_snoc : (low high last : ℕ) (xs : List ℕ) → high ≤ last → Climbs low high xs → Climbs low last (xs ++ (last ∷ []))
climbs_snoc low high last [] h c = (le_trans c h, le_refl last)
climbs_snoc low high last (x ∷ xs) h c = (c.0, climbs_snoc x high last xs h c.1)

module _ (maxLag : ℕ) where
  drain_few : (last went drained : ℕ) (xs : List ℕ) → length (drain maxLag last went drained xs).queue.waiting ≤ 64
  drain_few last went drained [] = omega arith
  drain_few last went drained (x ∷ xs) =
      cond_cases (λ (p : Pushed). length p.queue.waiting ≤ 64) (over maxLag last drained (x ∷ xs)) (λ _. drain_few last (suc went) x xs)
      (λ t. nltb→le 64 (length (x ∷ xs)) (not_over (ltb maxLag (last - drained)) (ltb 64 (length (x ∷ xs))) t).1)

  -- at most 64 wait after a push
  pub push_few : (q : Queue) (last : ℕ) → length (push maxLag q last).queue.waiting ≤ 64
  unfolding push
  push_few q last = drain_few last 0 q.drained (q.waiting ++ (last ∷ []))

  -- drained rises along the numbers, and what is left goes on from it
  drain_climbs : (last went drained high : ℕ) (xs : List ℕ) → Climbs drained high xs
      → (drained ≤ (drain maxLag last went drained xs).queue.drained) × Climbs (drain maxLag last went drained xs).queue.drained high (drain maxLag last went drained xs).queue.waiting
  drain_climbs last went drained high [] c = (le_refl drained, c)
  drain_climbs last went drained high (x ∷ xs) c =
      cond_cases (λ (p : Pushed). (drained ≤ p.queue.drained) × Climbs p.queue.drained high p.queue.waiting) (over maxLag last drained (x ∷ xs))
      (λ _. let r = drain_climbs last (suc went) x high xs c.1 in
      (le_trans c.0 r.0, r.1))
      (λ _. (le_refl drained, c))

  -- pushes of numbers that never fall, from a queue that has only such: drained never falls
  pub drained_never_falls : (q : Queue) (high : ℕ) (lasts : List ℕ) (end : ℕ) → Climbs q.drained high q.waiting → Climbs high end lasts → q.drained ≤ (push_all maxLag q lasts).drained
  unfolding push
  drained_never_falls q high [] end c d = le_refl q.drained
  drained_never_falls q high (last ∷ lasts) end c d =
      let r = drain_climbs last 0 q.drained last (q.waiting ++ (last ∷ [])) (climbs_snoc q.drained high last q.waiting d.0 c) in
      le_trans r.0 (drained_never_falls (push maxLag q last).queue last lasts end r.1 d.1)

  -- at most max_lag numbers are left undrained
  drain_within : (last went drained : ℕ) (xs : List ℕ) → last - (drain maxLag last went drained (xs ++ (last ∷ []))).queue.drained ≤ maxLag
  drain_within last went drained [] =
      cond_cases (λ (p : Pushed). last - p.queue.drained ≤ maxLag) (over maxLag last drained (last ∷ [])) (λ _. omega arith)
      (λ t. nltb→le maxLag (last - drained) (not_over (ltb maxLag (last - drained)) (ltb 64 (length (last ∷ []))) t).0)
  drain_within last went drained (x ∷ xs) =
      cond_cases (λ (p : Pushed). last - p.queue.drained ≤ maxLag) (over maxLag last drained (x ∷ (xs ++ (last ∷ [])))) (λ _. drain_within last (suc went) x xs)
      (λ t. nltb→le maxLag (last - drained) (not_over (ltb maxLag (last - drained)) (ltb 64 (length (x ∷ (xs ++ (last ∷ []))))) t).0)

  -- after a push the standby lags by at most max_lag
  pub push_within : (q : Queue) (last : ℕ) → last - (push maxLag q last).queue.drained ≤ maxLag
  unfolding push
  push_within q last = drain_within last 0 q.drained q.waiting

-- max_lag 2, lasts 1, 2, 3: the third drains one
third_drains_one : push 2 (push_all 2 (new_queue 0) (1 ∷ 2 ∷ [])) 3 ≡ record { queue = record { drained = 1; waiting = 2 ∷ 3 ∷ [] }; went = 1 }
unfolding push
third_drains_one = refl

-- the numbers from n on, k of them
abbrev numbers : ℕ → ℕ → List ℕ
numbers n zero = []
numbers n (suc k) = n ∷ numbers (suc n) k

-- 64 may wait: the 64th push drains none, the 65th one, however great max_lag is
sixty_four_wait :
    push 100 (push_all 100 (new_queue 0) (numbers 1 63)) 64 ∷ push 100 (push_all 100 (new_queue 0) (numbers 1 64)) 65 ∷ []
    ≡ record { queue = record { drained = 0; waiting = numbers 1 64 }; went = 0 } ∷ record { queue = record { drained = 1; waiting = numbers 2 64 }; went = 1 } ∷ []
unfolding push
sixty_four_wait = refl
