-- The lag queue in words: its numbers read and written, and one push. Assumes nothing.
use mathlib.Core.Path.{◌≡◌, refl, sym, ap, subst, ◌∙◌}
use mathlib.Core.Bool.{Bool, true, false, cond, true≢false}
use mathlib.Core.List.{List, [], ◌∷◌, ◌++◌}
use Prim.Native.Nat.{ℕ, ◌≤◌, ◌<◌}
use native.Mathlib.Omega.{arith}
use borrow.Author.Tests.{le-ltb, ltb-false}
use lib.Dec.{ltb}
use lib.ListN.{length, get_or, set, take, drop, length-set, length-drop}
use lib.Seq.{take-take, take_at, get_or-take, get_or-set_same, get_or-set_other, drop-set-lt, length-take-le}
use Rattle.model_session.specs.Lag.{Queue, push}
use Rattle.active_lag.specs.declared.ReplicatedLog.{ReplicatedLog}
use Rattle.active_lag.specs.declared.Queued.{Queued}
use Rattle.std.specs.Prelude.{Ok}
use Rattle.active_lag.specs.Queue.{queue_of, Answers}
use Rattle.active_lag.specs.Queue as model
use borrow.Rule.Slice.PartMut.{put_mid, take_put, same_len_mid}
use Rattle.std.proofs.lemmas.Slice.{between-put_mid, drop-put_mid}
use Rattle.c_code.specs.Codes.{done_code}
use Rattle.c_exports.specs.Queues.{queue_in, no_queue, PushesWords, Filled}

-- ---- the words, read and written

pub numbers_read : (q : List ℕ) {front : List ℕ} → 66 ≤ length q → front ≡ take 64 (drop 2 q) → take 64 (front ++ (0 ∷ [])) ≡ take 64 (drop 2 q)
numbers_read q {front} long e =
    let many : 64 ≤ length (drop 2 q) = omega (arith, length-drop 2 q) in
    let size : length front ≡ 64 = ap length e ∙ length-take-le 64 (drop 2 q) many in
    take_at front (0 ∷ []) 64 size ∙ e

pub filled : (d n : ℕ) {from : List ℕ} (q : List ℕ) {written : List ℕ} → 66 ≤ length q → length from ≡ 65 → written ≡ take 64 from
    → Filled d n from q (put_mid 2 64 (set (set q 0 d) 1 n) written)
filled d n {from} q {written} long wide e =
    let one : List ℕ = set (set q 0 d) 1 n in
    let same : length one ≡ length q = length-set (set q 0 d) 1 n ∙ length-set q 0 d in
    let many : 64 ≤ length from = omega arith in
    let size : length written ≡ 64 = ap length e ∙ length-take-le 64 from many in
    let inside : 2 ≤ length one = omega arith in
    let left : 64 ≤ length (drop 2 one) = omega (arith, length-drop 2 one) in
    let first : 0 < length q = omega arith in
    let second : 1 < length (set q 0 d) = omega (arith, length-set q 0 d) in
    let front : (i : ℕ) → i < 2 → get_or (put_mid 2 64 one written) i 0 ≡ get_or one i 0 =
    λ i h. sym (get_or-take 2 (put_mid 2 64 one written) i 0 h) ∙ ap (λ (l : List ℕ). get_or l i 0) (take_put 2 64 one written inside) ∙ get_or-take 2 one i 0 h in
    record {
      first = front 0 (omega arith) ∙ get_or-set_other (set q 0 d) 1 0 n 0 (λ e. omega arith) ∙ get_or-set_same q 0 d 0 first;
      second = front 1 (omega arith) ∙ get_or-set_same (set q 0 d) 1 n 0 second;
      numbers = between-put_mid 2 64 one written 66 inside size ∙ e;
      same = same_len_mid 2 64 one written (size ∙ sym (length-take-le 64 (drop 2 one) left)) ∙ same;
      rest = drop-put_mid 2 64 one written 66 (omega arith) inside size ∙ drop-set-lt 66 (set q 0 d) 1 n (omega arith) ∙ drop-set-lt 66 q 0 d (omega arith);
    }

-- ---- one push

-- the same numbers wait
waits : (k : ℕ) (l m : List ℕ) → k ≤ 64 → take 64 l ≡ take 64 m → take k l ≡ take k m
waits k l m few e = sym (take-take k 64 l few) ∙ ap (take k) e ∙ take-take k 64 m few

module _ (maxLag last : ℕ) (q : List ℕ) (long : 66 ≤ length q) (nums : List ℕ) (read : take 64 nums ≡ take 64 (drop 2 q)) where
  abbrev log : ReplicatedLog
  log = record { drained_through = get_or q 0 0; count = get_or q 1 0; queued = nums }

  by_count : no_queue q ≡ ltb 64 (get_or q 1 0)
  by_count = rw (le-ltb (length q) 66 long) refl

  -- a push that is answered was not refused with 25
  under : (t : Bool) → ◌≡◌ {A = ℕ} 0 (cond t 25 0) → t ≡ false
  under true e = absurd (omega arith)
  under false e = refl

  pub pushes : {a : Queued} {q' : List ℕ} {r : ℕ} → Answers maxLag log last (Ok a) → Filled a.log.drained_through a.log.count a.log.queued q q'
      → r ≡ done_code a.drained → PushesWords maxLag last q q' r
  pushes {a} {q'} answer f e =
      let u : ltb 64 (get_or q 1 0) ≡ false = under (ltb 64 (get_or q 1 0)) answer.refusal in
      let w : model.Pushes maxLag log last a = answer.pushed in
      let some : no_queue q ≡ false = by_count ∙ u in
      let few : get_or q 1 0 ≤ 64 = ltb-false 64 (get_or q 1 0) u in
      let before : queue_of log ≡ queue_in q = ap (λ (l : List ℕ). record { drained = get_or q 0 0; waiting = l }) (waits (get_or q 1 0) nums (drop 2 q) few read) in
      let after : queue_in q' ≡ queue_of a.log =
      (λ j. record { drained = f.first j; waiting = take (f.second j) (drop 2 q') })
      ∙ ap (λ (l : List ℕ). record { drained = a.log.drained_through; waiting = l }) (waits a.log.count (drop 2 q') a.log.queued w.few f.numbers) in
      record {
        answer = rw some (e ∙ ap done_code (w.drained ∙ ap (λ (x : Queue). (push maxLag x last).went) before));
        unchanged = λ t. absurd (true≢false (sym t ∙ some));
        pushed = λ _. record {
          queue = after ∙ w.queue ∙ ap (λ (x : Queue). (push maxLag x last).queue) before;
          few = subst (λ (n : ℕ). n ≤ 64) (sym f.second) w.few;
          same = f.same;
          rest = f.rest;
        };
      }
