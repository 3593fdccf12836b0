-- An item that was read stands in the bytes, without what else is known of it. Assumes nothing.
use mathlib.Core.List.{List, []}
use Prim.Native.Nat.{ℕ}
use Rattle.model_frame.specs.Parse.{Res, ok, bad, Parser}
use Rattle.model_frame.proofs.Canon.{Was, Canon}

pub stands_alone : {A : Type 0} {p : Parser A} {f : A → List ℕ} {U : A → Type 0} → Canon [] p f U → Canon [] p f (λ _. Unit {0})
stands_alone {A} {p} {f} {U} c = record { reads = λ s h. alone s (p s) (c.reads s h) }
  where
    alone : (s : List ℕ) (r : Res A) → Was f U s r → Was f (λ _. Unit {0}) s r
    alone s (ok a t) w = (w.0, tt, w.2)
    alone s (bad e) w = tt
