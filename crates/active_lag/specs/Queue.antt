-- What the code's queue stands for, and what a push answers. Assumes nothing.
use Rattle.std.specs.Prelude.{◌≡◌, cond, ℕ, ◌-◌, ◌≤◌, take, drop, ltb, Result, IfOk}
use Rattle.model_frame.specs.Refusal
use Rattle.model_session.specs.Lag.{Queue, drain, push}
use Rattle.base_refusals.specs.declared.Refusal as declared-refusal
use Rattle.base_refusals.specs.Numbers.{answer_number}
use Rattle.active_lag.specs.declared.ReplicatedLog.{ReplicatedLog}
use Rattle.active_lag.specs.declared.Queued.{Queued}

abbrev pub queue_of : ReplicatedLog → Queue
queue_of q = record { drained = q.drained_through; waiting = take q.count q.queued }

-- of the numbers that wait `gone` go, the last of them `through`
pub record Drains (maxLag last : ℕ) (q : ReplicatedLog) (gone through : ℕ) : Type 0 where
  pub drains : drain maxLag last 0 q.drained_through (take q.count q.queued) ≡ record { queue = record { drained = through; waiting = drop gone (take q.count q.queued) }; went = gone }
  pub within : gone ≤ q.count
  pub few : q.count - gone ≤ 64

-- the push of the definition
pub record Pushes (maxLag : ℕ) (q : ReplicatedLog) (last : ℕ) (a : Queued) : Type 0 where
  pub drained : a.drained ≡ (push maxLag (queue_of q) last).went
  pub queue : queue_of a.log ≡ (push maxLag (queue_of q) last).queue
  pub few : a.log.count ≤ 64

-- 25 for a queue of more than 64; else the push of the definition
pub record Answers (maxLag : ℕ) (q : ReplicatedLog) (last : ℕ) (r : Result Queued declared-refusal.Refusal) : Type 0 where
  pub refusal : answer_number r ≡ cond (ltb 64 q.count) Refusal.rules_broken 0
  pub pushed : IfOk r (Pushes maxLag q last)
