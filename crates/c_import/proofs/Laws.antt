-- The lowest number stored of an imported session. Assumes nothing.
use mathlib.Core.Path.{◌≡◌, refl, sym, ap, subst, ◌∙◌}
use mathlib.Core.Bool.{Bool, true, false, cond, ◌&&◌, ◌||◌}
use mathlib.Core.List.{List, [], ◌∷◌, ◌++◌}
use mathlib.Core.Option.{Option, none, some}
use Prim.Native.Nat.{ℕ, ◌+◌, ◌<◌}
use native.Mathlib.Omega.{arith}
use lib.ListN.{length, length-append, get_or, set}
use lib.Dec.{leb, ltb}
use borrow.Author.Tests.{leb-false, lt-ltb}
use Rattle.std.specs.Prelude.{Result, Ok, Err}
use Rattle.std.specs.Result.{result_unwrap_or}
use Rattle.base_refusals.specs.declared.Refusal.{Refusal}
use Rattle.model_text.specs.Printable.{is_key}
use Rattle.model_frame.specs.Frame.{Key}
use Rattle.model_standby.specs.Store.{is_stored}
use Rattle.model_fix.specs.Import.{judge_file}
use Rattle.model_lowest.specs.Lowest.{lowest_of}
use Rattle.store_areas.specs.declared.Shape.{Shape}
use Rattle.store_areas.specs.Areas.{Rules, allowed, in_use, place_at, places_of}
use Rattle.store_areas.proofs.Ruling.{rules_of, rules_true}
use Rattle.store_areas.proofs.Lifting.{places_length, rules_kept_by}
use Rattle.store_sessions.proofs.Opening.{raised}
use Rattle.store_sessions.specs.Answers.{Answered, gives, refuses as not_given}
use Rattle.store_lowest.specs.Lowest.{lowest_is, lowest_in}
use Rattle.fix_file.specs.declared.Fault.{Fault}
use Rattle.store_import.specs.Importing.{fault_of, refuses, imported_place, Taken, ImportAt}
use Rattle.c_import.specs.Answering.{Imports}

-- ---- where nothing is refused

clash : {x : ℕ × ℕ} → ◌≡◌ {A = Option (ℕ × ℕ)} (some x) none → ⊥
clash e = let z : ◌≡◌ {A = ℕ} 0 1 = cc in omega arith

record Free (rules full : Bool) : Type 0 where
  keeps : rules ≡ true
  room : full ≡ false

free : (a k f : Bool) (o : Option (ℕ × ℕ)) → cond a (cond k (cond f (some (20, 0)) o) (some (5, 0))) (some (25, 0)) ≡ none → Free a f
free true true false o e = record { keeps = refl; room = refl }
free true true true o e = absurd (clash e)
free true false f o e = absurd (clash e)
free false k f o e = absurd (clash e)

or_right : (a b : Bool) → (a || b) ≡ false → b ≡ false
or_right true b e = absurd (let z : ◌≡◌ {A = ℕ} 0 1 = cc in omega arith)
or_right false b e = e

module _ (s : Shape) (k : Key) (file w w' b b' : List ℕ) (i : ℕ) (t : Taken s k file w w' b b' i) where
  opens : Free (allowed s w b) (is_stored k (places_of s w b) || leb s.places (get_or w 0 0))
  unfolding refuses
  opens = free (allowed s w b) (is_key k.begin k.sender k.target k.suffix) (is_stored k (places_of s w b) || leb s.places (get_or w 0 0)) (fault_of (judge_file file)) t.good

  rules : Rules s w' b'
  rules =
      rules_kept_by s (get_or w 0 0) (set w 0 (get_or w 0 0 + 1)) w' b b' t.words t.bytes
      (raised s w b (rules_of s w b opens.keeps) (leb-false s.places (get_or w 0 0) (or_right (is_stored k (places_of s w b)) (leb s.places (get_or w 0 0)) opens.room)))

  one_more : get_or w' 0 0 ≡ get_or w 0 0 + 1
  one_more =
      sym (places_length s w' b') ∙ ap length t.places ∙ length-append (places_of s w b) (imported_place s k file ∷ []) ∙ ap (λ (n : ℕ). n + 1) (places_length s w b)

  used : in_use s w' b' i ≡ true
  used = (λ j. rules_true s w' b' rules j && ltb i (get_or w' 0 0)) ∙ lt-ltb i (get_or w' 0 0) (omega (arith, t.place, one_more))

  -- a number that is answered, or 0
  abbrev value_or : Answered ℕ → ℕ
  value_or (gives n) = n
  value_or (not_given e) = 0

  value_is : (o : Result ℕ Refusal) → result_unwrap_or o 0 ≡ value_or (lowest_is o)
  value_is (Ok n) = refl
  value_is (Err e) = refl

  pub built_lowest : (o : Result ℕ Refusal) {n : ℕ} → lowest_is o ≡ lowest_in s w' b' i → n ≡ result_unwrap_or o 0 → n ≡ lowest_of (place_at s w' b' i).stored.session.messages
  built_lowest o l e = e ∙ value_is o ∙ ap value_or l ∙ ap (λ (u : Bool). value_or (cond u (gives (lowest_of (place_at s w' b' i).stored.session.messages)) (not_given 25))) used

-- ---- the answer in numbers

pub builds : {s : Shape} {k : Key} {file w w' b b' : List ℕ} {o : Result ℕ Fault} (i : ℕ) (v : Result ℕ Refusal) {n : ℕ} → ImportAt s k file w w' b b' o → o ≡ Ok i → lowest_is v ≡ lowest_in s w' b' i → n ≡ result_unwrap_or v 0 → Imports s k file w w' b b' (record { refusal = 0; place = i; at = 0; lowest = n })
builds {s} {k} {file} {w} {w'} {b} {b'} {o} i v p e l g =
    let t : Taken s k file w w' b b' i = subst (ImportAt s k file w w' b b') e p in
    record { answer = Ok i; returned = ap (λ (m : ℕ). record { refusal = 0; place = i; at = 0; lowest = m }) (built_lowest s k file w w' b b' i t v l g); promise = t }
