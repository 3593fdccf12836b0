-- Whether a run of items is empty, by its count and its first item. Assumes nothing.
use Prim.Native.Nat.{ℕ, zero, suc}
use mathlib.Core.Path.{◌≡◌, refl, sym, ap}
use mathlib.Core.Bool.{true, false}
use mathlib.Core.List.{List}
use lib.ListN.{drop}
use Rattle.model_frame.specs.Frame.{Fault}
use Rattle.model_frame.specs.Parse.{Res, ok, bad, Parser, is_empty, item_then, collect}
use Rattle.std.specs.Prelude.{Result, Ok, Err, is_err}
use Rattle.frame_reader.specs.declared.FrameError.{FrameError}
use Rattle.frame_reader.specs.declared.Reader.{Reader}
use Rattle.frame_reader.specs.Answers.{res}
use Rattle.frame_op.specs.Answers.{run_of}
use Rattle.frame_op.specs.declared.Run.{Run}

module _ {A : Type 0} (p : Parser A) (b : List ℕ) (run : Run) where
  pub run_none : run.count ≡ 0 → true ≡ is_empty (run_of p b run)
  unfolding collect
  run_none e = sym (ap (λ (n : ℕ). is_empty (collect n p (drop run.at b))) e)

  run_some : (run.count ≡ 0 → ⊥) → {x : A} {s : List ℕ} → ok x s ≡ p (drop run.at b) → false ≡ is_empty (run_of p b run)
  unfolding collect
  run_some off {x} {s} e = go run.count off
    where
      go : (n : ℕ) → (n ≡ 0 → ⊥) → false ≡ is_empty (collect n p (drop run.at b))
      go zero off = absurd (off refl)
      go (suc n) off = ap (λ (r : Res A). is_empty (item_then r (collect n p))) e

  run_bad : {x : Fault} → bad x ≡ p (drop run.at b) → true ≡ is_empty (run_of p b run)
  unfolding collect
  run_bad {x} e = go run.count
    where
      go : (n : ℕ) → true ≡ is_empty (collect n p (drop run.at b))
      go zero = refl
      go (suc n) = ap (λ (r : Res A). is_empty (item_then r (collect n p))) e

-- whether the first item of a run that is not empty was read tells whether there is none
pub run_told : {A T : Type 0} (p : Parser A) (b : List ℕ) (run : Run) (f : T → A) → (run.count ≡ 0 → ⊥) → (after : Reader) (x : Result T FrameError) → res f after x ≡ p (drop run.at b) → is_err x ≡ is_empty (run_of p b run)
run_told p b run f off after (Ok v) e = run_some p b run off e
run_told p b run f off after (Err x) e = run_bad p b run e
