-- What a turn of the draining does, and its ends. Assumes nothing.
use mathlib.Core.Path.{◌≡◌, refl, sym, ap, ◌∙◌}
use mathlib.Core.Bool.{Bool, true, false, cond, ◌||◌, true≢false}
use mathlib.Core.List.{List, [], ◌∷◌, ◌++◌}
use Prim.Native.Nat.{ℕ, suc, ◌+◌, ◌-◌, ◌<◌, ◌≤◌}
use native.Mathlib.Omega.{arith}
use native.Mathlib.Numerals.{add-one}
use lib.ListN.{length, get_or, set, take, drop, length-set, length-drop}
use lib.Seq.{take-suc-set, take-paste, drop-cons, length-take-le}
use lib.Dec.{ltb}
use borrow.Author.Tests.{ltb-false}
use Rattle.base_laws.proofs.Lists.{drop_take}
use Rattle.active_lag.specs.declared.ReplicatedLog.{ReplicatedLog}
use Rattle.active_lag.specs.Queue.{Drains, Pushes}
use Rattle.std.specs.List.{copy_within}
use Rattle.model_session.specs.Lag.{Pushed, over, drain, push}

-- ---- draining the front

module _ (m last : ℕ) where
  stays : (went d x : ℕ) (xs : List ℕ) → over m last d (x ∷ xs) ≡ false → drain m last went d (x ∷ xs) ≡ record { queue = record { drained = d; waiting = x ∷ xs }; went = went }
  stays went d x xs h = ap (λ (b : Bool). cond b (drain m last (suc went) x xs) (record { queue = record { drained = d; waiting = x ∷ xs }; went = went })) h

  -- what is left to drain gives what all gives
  pub record Draining (from : ℕ) (all : List ℕ) (i d : ℕ) : Type 0 where
    pub upto : i ≤ length all
    pub left : drain m last 0 from all ≡ drain m last i d (drop i all)

  -- the test, on how many are left
  waiting : (d n : ℕ) (l : List ℕ) {b : Bool} {v : Bool} → length l ≡ n → b ≡ (ltb m (last - d) || ltb 64 n) → b ≡ v → over m last d l ≡ v
  waiting d n l len e v = ap (λ (k : ℕ). ltb m (last - d) || ltb 64 k) len ∙ sym e ∙ v

  abbrev Left : ℕ → ℕ → List ℕ → Pushed
  Left went d l = record { queue = record { drained = d; waiting = l }; went = went }

  drained_some : (from : ℕ) (all : List ℕ) (i d n : ℕ) {b : Bool} → length all ≡ n → Draining from all i d → i < n → b ≡ (ltb m (last - d) || ltb 64 (n - i)) → b ≡ false
      → drain m last 0 from all ≡ Left i d (drop i all)
  drained_some from all i d n len g less e f =
      let inside : i < length all = omega (arith, len) in
      let count : length (drop i all) ≡ n - i = length-drop i all ∙ ap (λ (k : ℕ). k - i) len in
      let cut : drop i all ≡ get_or all i 0 ∷ drop (suc i) all = drop-cons all i 0 inside in
      g.left ∙ ap (drain m last i d) cut
      ∙ stays i d (get_or all i 0) (drop (suc i) all) (ap (over m last d) (sym cut) ∙ waiting d (n - i) (drop i all) count e f)
      ∙ sym (ap (Left i d) cut)

  or_right : (a b : Bool) → (a || b) ≡ false → b ≡ false
  or_right true b h = absurd (true≢false h)
  or_right false b h = h

  -- the end before the list's
  pub stopped : (q : ReplicatedLog) (i d : ℕ) → length q.queued ≡ 65 → q.count ≤ 65 → Draining q.drained_through (take q.count q.queued) i d → i < q.count
      → {b : Bool} → b ≡ (ltb m (last - d) || ltb 64 (q.count - i)) → b ≡ false → Drains m last q i d
  stopped q i d long room g less e f =
      let inside : q.count ≤ length q.queued = omega (arith, long) in
      let count : length (take q.count q.queued) ≡ q.count = length-take-le q.count q.queued inside in
      record {
        drains = drained_some q.drained_through (take q.count q.queued) i d q.count count g less e f;
        within = omega (arith, g.upto, count);
        few = omega (arith, ltb-false 64 (q.count - i) (or_right (ltb m (last - d)) (ltb 64 (q.count - i)) (sym e ∙ f)));
      }

-- ---- the push

-- the numbers from `gone` on, moved to the front
moved : (gone n : ℕ) (q : List ℕ) → n ≤ length q → gone ≤ n → take (n - gone) (copy_within q gone n 0) ≡ drop gone (take n q)
moved gone n q long le =
    let many : n - gone ≤ length (drop gone q) = omega (arith, length-drop gone q) in
    let sum : gone + (n - gone) ≡ n = omega arith in
    let all : n - gone ≡ 0 + (n - gone) = omega arith in
    ap (λ (k : ℕ). take k (copy_within q gone n 0)) all ∙ take-paste q 0 (drop gone q) (n - gone) (omega arith) many ∙ sym (drop_take gone (n - gone) q) ∙ ap (λ (k : ℕ). drop gone (take k q)) sum

joined : (q : List ℕ) (count last : ℕ) → length q ≡ 65 → count ≤ 64 → take (count + 1) (set q count last) ≡ take count q ++ (last ∷ [])
joined q count last long few =
    let inside : count < length q = omega (arith, long) in
    rw add-one (take-suc-set q count last inside)

pub pushes : (m : ℕ) (q : ReplicatedLog) (last gone through : ℕ) {out : List ℕ} → length q.queued ≡ 65 → q.count ≤ 64
    → Drains m last (record { drained_through = q.drained_through; count = q.count + 1; queued = set q.queued q.count last }) gone through
    → out ≡ copy_within (set q.queued q.count last) gone (q.count + 1) 0
    → Pushes m q last (record { drained = gone; log = record { drained_through = through; count = q.count + 1 - gone; queued = out } })
unfolding push
pushes m q last gone through {out} long few d is =
    let inside : q.count + 1 ≤ length (set q.queued q.count last) = omega (arith, length-set q.queued q.count last) in
    let left : take (q.count + 1 - gone) out ≡ drop gone (take (q.count + 1) (set q.queued q.count last)) =
    ap (take (q.count + 1 - gone)) is ∙ moved gone (q.count + 1) (set q.queued q.count last) inside d.within in
    let drains : drain m last 0 q.drained_through (take q.count q.queued ++ (last ∷ [])) ≡ record { queue = record { drained = through; waiting = take (q.count + 1 - gone) out }; went = gone } =
    ap (drain m last 0 q.drained_through) (sym (joined q.queued q.count last long few)) ∙ d.drains ∙ ap (λ (l : List ℕ). record { queue = record { drained = through; waiting = l }; went = gone }) (sym left) in
    record {
      drained = rw drains refl;
      queue = rw drains refl;
      few = d.few;
    }
