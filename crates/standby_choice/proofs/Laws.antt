-- Candidates, the searches over the copies, the answer. Assumes nothing.
use mathlib.Core.Path.{◌≡◌, refl, sym, ap, subst, ◌∙◌}
use mathlib.Core.Bool.{Bool, true, false, cond, not, ◌&&◌, ◌||◌, true≢false}
use mathlib.Core.List.{List, [], ◌∷◌}
use Prim.Native.Nat.{ℕ, zero, suc, ◌+◌, ◌<◌, ◌≤◌, max}
use native.Mathlib.Omega.{arith}
use lib.Dec.{eqb, ltb}
use borrow.Author.Tests.{eq-eqb, ne_eqb, ltb-true, ltb-false}
use Rattle.std.specs.Prelude.{Option, None, Some, ok_or, Result, Err}
use Rattle.std.specs.List.{fold, list_all, position_or_len}
use Rattle.std.proofs.lemmas.Bool.{and_parts}
use Rattle.base_refusals.specs.declared.Refusal.{Refusal}
use lib.ListN.{length, get_or}
use Rattle.base_flags.specs.Flag.{is_set}
use Rattle.model_standby.specs.Store.{Place}
use Rattle.store_areas.specs.Areas.{allowed, Rules, places_of}
use Rattle.store_areas.proofs.Ruling.{rules_of}
use Rattle.model_choice.specs.Choice.{is_candidate, is_ahead, is_ahead_of_all, highest, first_that_fits, chosen}
use Rattle.standby_choice.specs.declared.CopyState.{CopyState}
use Rattle.standby_choice.specs.declared.lent.LentCopy.{LentCopy}
use Rattle.standby_choice.specs.Choice.{copy_of, is_sound, RulesIf, raised_by, copies_of, are_sound, Kept, fits_at, choice_of}

and_left : (a b c : Bool) → ((a && b) && c) ≡ true → a ≡ true
and_left true b c h = refl
and_left false b c h = absurd (true≢false (sym h))

-- a candidate is listed, and its store keeps the rules
pub candidate_rules : (c : CopyState) (w b : List ℕ) (top : ℕ) {t : Bool} → RulesIf c w b → t ≡ ((is_set c.listed && is_set c.checked) && eqb c.epoch.0 top) → t ≡ true → Rules c.shape w b
candidate_rules c w b top r e t = r (and_left (is_set c.listed) (is_set c.checked) (eqb c.epoch.0 top) (sym e ∙ t))

pub no_candidate : {a r : Bool} (b : Bool) → r ≡ a → r ≡ false → false ≡ (a && b)
no_candidate b e f = ap (λ (x : Bool). x && b) (sym f ∙ e)

pub candidate : {a b r q : Bool} → r ≡ a → r ≡ true → q ≡ b → q ≡ (a && b)
candidate {a} {b} e f g = g ∙ ap (λ (x : Bool). x && b) (sym f ∙ e)

-- ---- the copy x at place i

no_place : (i : ℕ) → i < 0 → ⊥
no_place i h = omega arith

kept_or : (x : LentCopy) (cs : List LentCopy) (i : ℕ) → Kept cs → i < length cs → RulesIf (get_or cs i x).copy (get_or cs i x).words.now (get_or cs i x).bytes.now
kept_or x [] i k h = absurd (no_place i h)
kept_or x (c ∷ cs) zero k h = k.0
kept_or x (c ∷ cs) (suc i) k h = kept_or x cs i k.1 (omega arith)

pub kept_at : (x : LentCopy) (cs : List LentCopy) (i : ℕ) → x ≡ get_or cs i x → Kept cs → i < length cs → RulesIf x.copy x.words.now x.bytes.now
kept_at x cs i is k h = subst (λ (c : LentCopy). RulesIf c.copy c.words.now c.bytes.now) (sym is) (kept_or x cs i k h)

-- ---- ahead of every candidate

module _ (top : ℕ) (mine : List Place) where
  abbrev pub ahead : LentCopy → Bool
  ahead c = not (is_candidate top (copy_of c.copy c.words.now c.bytes.now)) || is_ahead mine (places_of c.copy.shape c.words.now c.bytes.now)

  pub ahead_of_all : (cs : List LentCopy) → list_all ahead cs ≡ is_ahead_of_all top mine (copies_of cs)
  ahead_of_all [] = refl
  ahead_of_all (c ∷ cs) = ap (λ (t : Bool). ahead c && t) (ahead_of_all cs)

-- ---- the first that fits

highest_by : (t : ℕ) (cs : List LentCopy) → fold raised_by t cs ≡ max t (highest (copies_of cs))
highest_by t [] = omega arith
highest_by t (c ∷ cs) = highest_by (raised_by t c) cs ∙ go (is_set c.copy.listed && is_set c.copy.checked)
  where
    go : (b : Bool) → max (cond b (max t c.copy.epoch.0) t) (highest (copies_of cs)) ≡ max t (cond b (max c.copy.epoch.0 (highest (copies_of cs))) (highest (copies_of cs)))
    go true = omega arith
    go false = refl

highest_is : (cs : List LentCopy) → fold raised_by 0 cs ≡ highest (copies_of cs)
highest_is cs = highest_by 0 cs ∙ omega arith

module _ (all : List LentCopy) where
  abbrev pub fits : ℕ → LentCopy → Bool
  fits top c = is_candidate top (copy_of c.copy c.words.now c.bytes.now) && is_ahead_of_all top (places_of c.copy.shape c.words.now c.bytes.now) (copies_of all)

  first_is : {top : ℕ} → top ≡ highest (copies_of all) → (cs : List LentCopy) → position_or_len (fits top) cs ≡ first_that_fits (copies_of all) (copies_of cs)
  first_is e [] = refl
  first_is {top} e (c ∷ cs) = go (fits top c) (first_is e cs) ∙ ap (λ (n : ℕ). cond (fits n c) 0 (suc (first_that_fits (copies_of all) (copies_of cs)))) e
    where
      go : (t : Bool) → position_or_len (fits top) cs ≡ first_that_fits (copies_of all) (copies_of cs) → cond (not t) (1 + position_or_len (fits top) cs) 0 ≡ cond t 0 (suc (first_that_fits (copies_of all) (copies_of cs)))
      go true h = refl
      go false h = omega (arith, h)

  first_low : (cs : List LentCopy) → first_that_fits (copies_of all) (copies_of cs) ≤ length cs
  first_low [] = omega arith
  first_low (c ∷ cs) = go (fits (highest (copies_of all)) c) (first_low cs)
    where
      go : (t : Bool) → first_that_fits (copies_of all) (copies_of cs) ≤ length cs → cond t 0 (suc (first_that_fits (copies_of all) (copies_of cs))) ≤ suc (length cs)
      go true h = omega arith
      go false h = omega (arith, h)

  -- past the copies there is none
  placed : (i n : ℕ) → i ≤ n → cond (ltb i n) (Some i) None ≡ fits_at n i
  placed i n h = go (ltb i n) refl
    where
      go : (t : Bool) → ltb i n ≡ t → cond t (Some i) None ≡ fits_at n i
      go true e = sym (ap (λ (x : Bool). cond x None (Some i)) (ne_eqb i n (λ z. omega (arith, z, ltb-true i n e))))
      go false e = sym (ap (λ (x : Bool). cond x None (Some i)) (eq-eqb i n (omega (arith, ltb-false i n e))))

  pub first_fits : {top : ℕ} {r : Option ℕ} → top ≡ fold raised_by 0 all → r ≡ cond (ltb (position_or_len (fits top) all) (length all)) (Some (position_or_len (fits top) all)) None → r ≡ fits_at (length all) (chosen (copies_of all))
  unfolding chosen
  first_fits e is =
      is ∙ ap (λ (i : ℕ). cond (ltb i (length all)) (Some i) None) (first_is (e ∙ highest_is all) all)
      ∙ placed (first_that_fits (copies_of all) (copies_of all)) (length all) (first_low all)

-- ---- the answer

rules_if : (c : CopyState) (w b : List ℕ) → is_sound c w b ≡ true → RulesIf c w b
rules_if c w b h t = rules_of c.shape w b (sym (ap (λ (x : Bool). not x || allowed c.shape w b) t) ∙ h)

all_kept : (cs : List LentCopy) → are_sound cs ≡ true → Kept cs
all_kept [] h = tt
all_kept (c ∷ cs) h =
    let q = and_parts (is_sound c.copy c.words.now c.bytes.now) (are_sound cs) h in
    (rules_if c.copy c.words.now c.bytes.now q.0, all_kept cs q.1)

module _ (cs : List LentCopy) {r : Bool} (e : r ≡ are_sound cs) where
  abbrev answer : Bool → Result ℕ Refusal
  answer t = cond t (ok_or (fits_at (length cs) (chosen (copies_of cs))) Refusal.NoneFits) (Err Refusal.RulesBroken)

  pub kept : r ≡ true → Kept cs
  kept f = all_kept cs (sym e ∙ f)

  pub broken : r ≡ false → Err Refusal.RulesBroken ≡ choice_of cs
  broken f = sym (ap answer (sym e ∙ f))

  pub takes : {o : Option ℕ} {a : Result ℕ Refusal} → r ≡ true → o ≡ fits_at (length cs) (chosen (copies_of cs)) → a ≡ ok_or o Refusal.NoneFits → a ≡ choice_of cs
  takes f g h = h ∙ ap (λ (x : Option ℕ). ok_or x Refusal.NoneFits) g ∙ sym (ap answer (sym e ∙ f))
