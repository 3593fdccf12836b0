-- A run that was skipped, from `at` to d: the bytes between them are its items, written. Assumes nothing.
use mathlib.Core.Path.{◌≡◌, sym, ap, ◌∙◌}
use mathlib.Core.List.{List, [], ◌++◌}
use Prim.Native.Nat.{ℕ, ◌+◌, ◌-◌, ◌≤◌}
use native.Mathlib.Omega.{arith}
use lib.Dec.{T}
use lib.ListN.{length, take, drop, length-append, length-drop}
use lib.Seq.{take_at, drop_at, drop-drop}
use Rattle.model_frame.specs.Bytes.{is_bytes}
use Rattle.model_frame.specs.Parse.{Parser, ok, forget, many, collect, run_bytes}
use Rattle.model_frame.proofs.Le.{bytes_each, each_drop}
use Rattle.model_frame.proofs.Canon.{Was, Canon, run_canon, Run}
use Rattle.base_laws.specs.Wrote.{StandsAt}
use Rattle.base_laws.proofs.Runs.{run_items}

module _ {A : Type 0} (p : Parser A) (f : A → List ℕ) (U : A → Type 0) (canon : Canon [] p f U) (n : ℕ) (b : List ℕ) (at d : ℕ) (known : T (is_bytes b)) (e : ok tt (drop d b) ≡ forget (many n p (drop at b))) where
  run_reads : many n p (drop at b) ≡ ok (collect n p (drop at b)) (drop d b)
  run_reads = sym (run_items p n (drop at b) e)

  was : Was (run_bytes f) (Run U n) (drop at b) (ok (collect n p (drop at b)) (drop d b))
  was = rw run_reads at ((run_canon canon n).reads (drop at b) (each_drop at b (bytes_each b known)))

  split : drop at b ≡ run_bytes f (collect n p (drop at b)) ++ drop d b
  split = was.0

  pub run_counted : length (collect n p (drop at b)) ≡ n
  run_counted = was.1.0

  size : length b - at ≡ length (run_bytes f (collect n p (drop at b))) + (length b - d)
  size = sym (length-drop at b) ∙ ap length split ∙ length-append (run_bytes f (collect n p (drop at b))) (drop d b) ∙ ap (λ (k : ℕ). length (run_bytes f (collect n p (drop at b))) + k) (length-drop d b)

  pub run_stands : {i j : ℕ} → i ≡ length b - at → j ≡ length b - d → StandsAt b at (i - j) (run_bytes f (collect n p (drop at b)))
  run_stands {i} {j} ei ej =
      let k : i - j ≡ length (run_bytes f (collect n p (drop at b))) = omega (arith, size) in
      record {
        same = ap (take (i - j)) split ∙ take_at (run_bytes f (collect n p (drop at b))) (drop d b) (i - j) (sym k);
        size = k;
      }

  pub run_past : {i j : ℕ} → i ≡ length b - at → j ≡ length b - d → many n p (drop at b) ≡ ok (collect n p (drop at b)) (drop (at + (i - j)) b)
  run_past {i} {j} ei ej =
      let k : length (run_bytes f (collect n p (drop at b))) ≡ i - j = omega (arith, size) in
      let q : drop (at + (i - j)) b ≡ drop d b = sym (drop-drop (i - j) at b) ∙ ap (drop (i - j)) split ∙ drop_at (run_bytes f (collect n p (drop at b))) (drop d b) (i - j) k in
      run_reads ∙ ap (ok (collect n p (drop at b))) (sym q)

  -- the end is not before the start
  pub run_forward : {i j : ℕ} → i ≡ length b - at → j ≡ length b - d → j ≤ i
  run_forward ei ej = omega (arith, size)
