-- The lag queue in words: 0 drained, 1 how many wait, from 2 on 64 numbers, oldest first. Assumes nothing.
use Rattle.std.specs.Prelude.{◌≡◌, ℕ, ◌≤◌, Bool, true, false, cond, ◌||◌, List, length, get_or, take, drop, ltb}
use Rattle.model_frame.specs.Refusal
use Rattle.model_session.specs.Lag.{Queue, push}
use Rattle.c_code.specs.Codes.{refusal_code, done_code}

-- the queue that the words stand for
abbrev pub queue_in : List ℕ → Queue
queue_in q = record { drained = get_or q 0 0; waiting = take (get_or q 1 0) (drop 2 q) }

-- fewer than 66 words, or more than 64 said to wait
abbrev pub no_queue : List ℕ → Bool
no_queue q = ltb (length q) 66 || ltb 64 (get_or q 1 0)

-- the words hold this queue; those past the 66 are as they were
pub record QueueWords (u : Queue) (q q' : List ℕ) : Type 0 where
  pub queue : queue_in q' ≡ u
  pub few : get_or q' 1 0 ≤ 64
  pub same : length q' ≡ length q
  pub rest : drop 66 q' ≡ drop 66 q

-- 25 and all as it was where the words are no queue; else the queue after the push, and how many went
pub record PushesWords (maxLag last : ℕ) (q q' : List ℕ) (r : ℕ) : Type 0 where
  pub answer : r ≡ cond (no_queue q) (refusal_code Refusal.rules_broken 0) (done_code (push maxLag (queue_in q) last).went)
  pub unchanged : no_queue q ≡ true → q' ≡ q
  pub pushed : no_queue q ≡ false → QueueWords (push maxLag (queue_in q) last).queue q q'

-- ---- of a function within

-- all 66 words are set: drained, how many wait, and the numbers
pub record Filled (drained count : ℕ) (from q q' : List ℕ) : Type 0 where
  pub first : get_or q' 0 0 ≡ drained
  pub second : get_or q' 1 0 ≡ count
  pub numbers : take 64 (drop 2 q') ≡ take 64 from
  pub same : length q' ≡ length q
  pub rest : drop 66 q' ≡ drop 66 q
