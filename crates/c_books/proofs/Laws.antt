-- From the promises of `active_books` to those in numbers. Assumes nothing.
use mathlib.Core.Path.{subst}
use mathlib.Core.List.{List}
use Prim.Native.Nat.{ℕ}
use Rattle.model_active.specs.CatchUp.{Call, Answer}
use Rattle.active_books.specs.Calls.{BooksCalled, MakesNew, SaysBehind}
use Rattle.c_books.specs.declared.Answered.{Answered}
use Rattle.c_books.specs.Numbers.{InNumbers, CallsInNumbers, MakesBooks, TellsBehind}

pub calls : (w w' : List ℕ) (c : Call) (a : Answer) (r : Answered) → BooksCalled w w' c a → InNumbers a r → CallsInNumbers w w' c r
calls w w' c a r k n = record { numbers = subst (λ (x : Answer). InNumbers x r) k.answer n; called = subst (BooksCalled w w' c) k.answer k }

pub makes : (w w' : List ℕ) (a : Answer) (r : Answered) → MakesNew w w' a → InNumbers a r → MakesBooks w w' r
makes w w' a r k n = record { numbers = subst (λ (x : Answer). InNumbers x r) k.answer n; made = subst (MakesNew w w') k.answer k }

pub tells : (w : List ℕ) (s : ℕ) (a : Answer) (r : Answered) → SaysBehind w s a → InNumbers a r → TellsBehind w s r
tells w s a r k n = subst (λ (x : Answer). InNumbers x r) k n
