-- What recording a message answers beside its refusal. Assumes nothing.
use mathlib.Core.Path.{◌≡◌, refl, sym, ap, subst, ◌∙◌}
use mathlib.Core.Bool.{Bool, true, false, cond, ◌&&◌, true≢false}
use mathlib.Core.List.{List, [], ◌∷◌}
use Prim.Native.Nat.{ℕ, ◌<◌}
use native.Mathlib.Omega.{arith}
use lib.Dec.{eqb, ltb}
use lib.ListN.{get_or}
use borrow.Author.Tests.{eq-eqb, ne_eqb, lt-ltb}
use Rattle.std.specs.Prelude.{Result, Ok, Err}
use Rattle.std.specs.Result.{result_unwrap_or}
use Rattle.base_refusals.specs.declared.Refusal.{Refusal}
use Rattle.model_frame.specs.Frame.{record_msg}
use Rattle.model_standby.specs.Store.{Stored, changed}
use Rattle.model_lowest.specs.Lowest.{lowest_of}
use Rattle.store_areas.specs.declared.Shape.{Shape}
use Rattle.store_areas.specs.Areas.{in_use, InUse, Changed}
use Rattle.store_areas.proofs.Ruling.{in_use_of, rules_true}
use Rattle.store_areas.proofs.Lifting.{count_kept, rules_kept}
use Rattle.store_sessions.specs.Answers.{Answered, gives, refuses}
use Rattle.store_lowest.specs.Lowest.{lowest_is, lowest_in}
use Rattle.c_store.specs.declared.StoreAnswer.{StoreAnswer}
use Rattle.c_store.specs.Total.{session_in, why_no_record, ChangeIs}
use Rattle.c_changes.specs.Recording.{RecordIs}

-- a number that is answered, or 0
abbrev value_or : Answered ℕ → ℕ
value_or (gives n) = n
value_or (refuses e) = 0

value_is : (o : Result ℕ Refusal) → result_unwrap_or o 0 ≡ value_or (lowest_is o)
value_is (Ok n) = refl
value_is (Err e) = refl

module _ (s : Shape) (i : ℕ) (text w w' b b' : List ℕ) where
  abbrev pub Changes : ℕ → Type 0
  Changes r = ChangeIs s i (why_no_record (session_in s w b i).next_out) (changed s.bytes s.messages (record_msg (session_in s w b i).next_out text ∷ [])) w w' b b' r

  used_before : {why r : ℕ} {f : Stored → Stored} → ChangeIs s i why f w w' b b' r → r ≡ 0 → in_use s w b i ≡ true
  used_before {why} {r} c z = go (in_use s w b i) refl
    where
      go : (t : Bool) → in_use s w b i ≡ t → in_use s w b i ≡ true
      go true e = e
      go false e = let q : r ≡ 25 = c.answer ∙ ap (λ (t : Bool). cond t why 25) e in absurd (let n : ◌≡◌ {A = ℕ} 0 1 = omega (arith, q, z) in omega (arith, n))

  used_after : (f : Stored → Stored) → in_use s w b i ≡ true → Changed s i f w w' b b' → in_use s w' b' i ≡ true
  used_after f e c =
      let u : InUse s w b i = in_use_of s w b i e in
      (λ j. rules_true s w' b' (rules_kept s i f w w' b b' c u.rules) j && ltb i (count_kept s i w w' b b' c.words c.bytes j)) ∙ lt-ltb i (get_or w 0 0) u.at

  pub recorded_lowest : {r : ℕ} (o : Result ℕ Refusal) {a : StoreAnswer} {n : ℕ} → Changes r → r ≡ 0 → lowest_is o ≡ lowest_in s w' b' i → n ≡ result_unwrap_or o 0 → a ≡ record { refusal = 0; value = n } → RecordIs s i text w w' b b' a
  recorded_lowest {r} o {a} c z l v e =
      let f : Stored → Stored = changed s.bytes s.messages (record_msg (session_in s w b i).next_out text ∷ []) in
      let used : in_use s w' b' i ≡ true = used_after f (used_before c z) (c.made z) in
      subst (RecordIs s i text w w' b b') (sym e)
      (record {
        change = subst Changes z c;
        lowest = λ _. v ∙ value_is o ∙ ap value_or l ∙ ap (λ (t : Bool). value_or (cond t (gives (lowest_of (session_in s w' b' i).messages)) (refuses 25))) used;
        none = λ off. absurd (true≢false (sym (eq-eqb 0 0 refl) ∙ off));
      })

  pub not_recorded : {r : ℕ} → Changes r → (r ≡ 0 → ⊥) → RecordIs s i text w w' b b' (record { refusal = r; value = 0 })
  not_recorded c nonzero = record { change = c; lowest = λ z. absurd (nonzero z); none = λ _. refl }
