-- The chosen copy fits and none before it does, and this says which it is; it is ahead of every checked copy of its epoch in each session.
-- Assumes nothing.
use mathlib.Core.Path.{◌≡◌, refl, sym, ap, ◌∙◌}
use mathlib.Core.Bool.{Bool, true, false, cond, not, ◌&&◌, ◌||◌, true≢false}
use mathlib.Core.List.{List, [], ◌∷◌}
use mathlib.Core.Option.{Option, none, some}
use Prim.Native.Nat.{ℕ, zero, suc, ◌≤◌, ◌<◌, max}
use native.Mathlib.Omega.{arith}
use lib.ListN.{length, get_elem?}
use lib.Dec.{eqb, leb}
use borrow.Author.Tests.{leb-true, leb-false, eqb-true, eq-eqb}
use Rattle.std.proofs.lemmas.Bool.{and_parts}
use Rattle.model_standby.specs.Store.{Place}
use Rattle.model_standby.proofs.Places.{at_there}
use Rattle.model_choice.specs.Choice.{StandbyCopy, is_checked_copy, highest, is_candidate, next_of, is_ahead, is_ahead_of_all, fits_rule, first_that_fits, chosen}

no_copy : {c : StandbyCopy} → ◌≡◌ {A = Option StandbyCopy} none (some c) → ⊥
no_copy e = let z : ◌≡◌ {A = ℕ} 0 1 = cc in omega arith

-- what is answered is the first that fits, or none does
taken : (all cs : List StandbyCopy) (c : StandbyCopy) → get_elem? cs (first_that_fits all cs) ≡ some c → fits_rule all c ≡ true
taken all [] c e = absurd (no_copy e)
taken all (d ∷ cs) c e = go (fits_rule all d) refl e (taken all cs c)
  where
    go : (b : Bool) → fits_rule all d ≡ b → get_elem? (d ∷ cs) (cond b 0 (suc (first_that_fits all cs))) ≡ some c → (get_elem? cs (first_that_fits all cs) ≡ some c → fits_rule all c ≡ true) → fits_rule all c ≡ true
    go true f e ih =
        let same : d ≡ c = cc in
        ap (fits_rule all) (sym same) ∙ f
    go false f e ih = ih e

none_before : (all cs : List StandbyCopy) (i : ℕ) (c : StandbyCopy) → i < first_that_fits all cs → get_elem? cs i ≡ some c → fits_rule all c ≡ false
none_before all [] i c less e = absurd (no_copy e)
none_before all (d ∷ cs) zero c less e = go (fits_rule all d) refl less
  where
    never : 0 < 0 → ⊥
    never h = omega arith

    go : (b : Bool) → fits_rule all d ≡ b → 0 < cond b 0 (suc (first_that_fits all cs)) → fits_rule all c ≡ false
    go true f less = absurd (never less)
    go false f less =
        let same : d ≡ c = cc in
        ap (fits_rule all) (sym same) ∙ f
none_before all (d ∷ cs) (suc i) c less e = go (fits_rule all d) less (λ h. none_before all cs i c h e)
  where
    never : suc i < 0 → ⊥
    never h = omega arith

    go : (b : Bool) → suc i < cond b 0 (suc (first_that_fits all cs)) → (i < first_that_fits all cs → fits_rule all c ≡ false) → fits_rule all c ≡ false
    go true less ih = absurd (never less)
    go false less ih = ih (omega arith)

-- ahead of each candidate, in each of its sessions
ahead : (mine theirs : List Place) (p : Place) (i : ℕ) → is_ahead mine theirs ≡ true → get_elem? theirs i ≡ some p → p.stored.session.next_out ≤ next_of p.key mine
ahead mine [] p i h e = let z : ◌≡◌ {A = ℕ} 0 1 = cc in omega arith
ahead mine (q ∷ theirs) p zero h e =
    let same : q ≡ p = cc in
    let a = and_parts (leb q.stored.session.next_out (next_of q.key mine)) (is_ahead mine theirs) h in
    leb-true p.stored.session.next_out (next_of p.key mine) (ap (λ (x : Place). leb x.stored.session.next_out (next_of x.key mine)) (sym same) ∙ a.0)
ahead mine (q ∷ theirs) p (suc i) h e = ahead mine theirs p i (and_parts (leb q.stored.session.next_out (next_of q.key mine)) (is_ahead mine theirs) h).1 e

each : (top : ℕ) (mine : List Place) (ds : List StandbyCopy) (d : StandbyCopy) (j : ℕ) → is_ahead_of_all top mine ds ≡ true → get_elem? ds j ≡ some d → is_candidate top d ≡ true → is_ahead mine d.places ≡ true
each top mine [] d j h e t = let z : ◌≡◌ {A = ℕ} 0 1 = cc in absurd (no z)
  where
    no : ◌≡◌ {A = ℕ} 0 1 → ⊥
    no z = omega arith
each top mine (c ∷ ds) d zero h e t =
    let same : c ≡ d = cc in
    let a = and_parts (not (is_candidate top c) || is_ahead mine c.places) (is_ahead_of_all top mine ds) h in
    left (is_candidate top d) (is_ahead mine d.places) t (ap (λ (x : StandbyCopy). not (is_candidate top x) || is_ahead mine x.places) (sym same) ∙ a.0)
  where
    left : (a b : Bool) → a ≡ true → (not a || b) ≡ true → b ≡ true
    left true b f g = g
    left false b f g = absurd (true≢false (sym f))
each top mine (c ∷ ds) d (suc j) h e t = each top mine ds d j (and_parts (not (is_candidate top c) || is_ahead mine c.places) (is_ahead_of_all top mine ds) h).1 e t

-- no checked copy has a higher epoch
highest_so : (cs : List StandbyCopy) (d : StandbyCopy) (j : ℕ) → get_elem? cs j ≡ some d → is_checked_copy d ≡ true → d.epoch ≤ highest cs
highest_so [] d j e t = absurd (no_copy e)
highest_so (c ∷ cs) d zero e t =
    let same : c ≡ d = cc in
    let here : is_checked_copy c ≡ true = ap is_checked_copy same ∙ t in
    let epoch : c.epoch ≡ d.epoch = ap (λ (x : StandbyCopy). x.epoch) same in
    rw here (omega arith)
highest_so (c ∷ cs) d (suc j) e t = go (is_checked_copy c) (highest_so cs d j e t)
  where
    go : (b : Bool) → d.epoch ≤ highest cs → d.epoch ≤ cond b (max c.epoch (highest cs)) (highest cs)
    go true ih = omega arith
    go false ih = ih

-- what the answer i promises of copy c there
pub record Takes (cs : List StandbyCopy) (i : ℕ) (c : StandbyCopy) : Type 0 where
  pub checked : is_checked_copy c ≡ true
  pub newest : (j : ℕ) (d : StandbyCopy) → get_elem? cs j ≡ some d → is_checked_copy d ≡ true → d.epoch ≤ c.epoch
  pub ahead : (j : ℕ) (d : StandbyCopy) → get_elem? cs j ≡ some d → is_checked_copy d ≡ true → d.epoch ≡ c.epoch → (k : ℕ) (p : Place) → get_elem? d.places k ≡ some p
      → p.stored.session.next_out ≤ next_of p.key c.places
  pub first : (j : ℕ) (d : StandbyCopy) → j < i → get_elem? cs j ≡ some d → fits_rule cs d ≡ false

pub takes : (cs : List StandbyCopy) (c : StandbyCopy) → get_elem? cs (chosen cs) ≡ some c → Takes cs (chosen cs) c
unfolding chosen
takes cs c e =
    let f = and_parts (is_candidate (highest cs) c) (is_ahead_of_all (highest cs) c.places cs) (taken cs cs c e) in
    let g = and_parts (is_checked_copy c) (eqb c.epoch (highest cs)) f.0 in
    let top : c.epoch ≡ highest cs = eqb-true c.epoch (highest cs) g.1 in
    record {
      checked = g.0;
      newest = λ j d at t. omega (arith, highest_so cs d j at t);
      ahead = λ j d at t same k p there. ahead c.places d.places p k (each (highest cs) c.places cs d j f.1 at (rw t (eq-eqb d.epoch (highest cs) (same ∙ top)))) there;
      first = λ j d less at. none_before cs cs j d less at;
    }

within : (all cs : List StandbyCopy) → first_that_fits all cs ≤ length cs
within all [] = omega arith
within all (c ∷ cs) = go (fits_rule all c) (within all cs)
  where
    go : (b : Bool) → first_that_fits all cs ≤ length cs → cond b 0 (suc (first_that_fits all cs)) ≤ suc (length cs)
    go true ih = omega arith
    go false ih = omega arith

-- ---- exactly one answer

-- what is asked of an answer: the copy of that number fits and none before it does, or none fits and the answer is how many there are
pub record Answers (cs : List StandbyCopy) (i : ℕ) : Type 0 where
  pub upto : i ≤ length cs
  pub it_fits : (c : StandbyCopy) → get_elem? cs i ≡ some c → fits_rule cs c ≡ true
  pub none_before : (j : ℕ) (d : StandbyCopy) → j < i → get_elem? cs j ≡ some d → fits_rule cs d ≡ false

pub answers : (cs : List StandbyCopy) → Answers cs (chosen cs)
unfolding chosen
answers cs = record { upto = within cs cs; it_fits = taken cs cs; none_before = none_before cs cs }

there : (cs : List StandbyCopy) (i : ℕ) → i < length cs → (c : StandbyCopy) × (get_elem? cs i ≡ some c)
there [] i h = absurd (omega arith)
there (c ∷ cs) zero h = (c, refl)
there (c ∷ cs) (suc i) h = there cs i (omega arith)

not_less : (cs : List StandbyCopy) (i j : ℕ) → Answers cs i → Answers cs j → i < j → ⊥
not_less cs i j a b h =
    let c = there cs i (omega (arith, b.upto)) in
    true≢false (sym (a.it_fits c.0 c.1) ∙ b.none_before i c.0 h c.1)

pub one_answer : (cs : List StandbyCopy) (i j : ℕ) → Answers cs i → Answers cs j → i ≡ j
one_answer cs i j a b = go (leb i j) (leb j i) refl refl
  where
    go : (x y : Bool) → leb i j ≡ x → leb j i ≡ y → i ≡ j
    go true true e f = omega (arith, leb-true i j e, leb-true j i f)
    go false y e f = absurd (not_less cs j i b a (leb-false i j e))
    go true false e f = absurd (not_less cs i j a b (leb-false j i f))

-- 39 exactly when no copy fits
pub none_fits : (cs : List StandbyCopy) → chosen cs ≡ length cs → (j : ℕ) (d : StandbyCopy) → get_elem? cs j ≡ some d → fits_rule cs d ≡ false
none_fits cs e j d at = (answers cs).none_before j d (omega (arith, e, at_there cs j d at)) at

pub else_taken : (cs : List StandbyCopy) → ((j : ℕ) (d : StandbyCopy) → get_elem? cs j ≡ some d → fits_rule cs d ≡ false) → chosen cs ≡ length cs
else_taken cs h =
    one_answer cs (chosen cs) (length cs) (answers cs)
    (record { upto = omega arith; it_fits = λ c e. absurd (past c e); none_before = λ j d _ e. h j d e })
  where
    past : (c : StandbyCopy) → get_elem? cs (length cs) ≡ some c → ⊥
    past c e = omega (arith, at_there cs (length cs) c e)
