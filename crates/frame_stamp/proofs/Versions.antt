-- What a version takes, by the length, and what is a version. Assumes nothing.
use mathlib.Core.Path.{◌≡◌, refl, sym, ap, ◌∙◌}
use mathlib.Core.Bool.{Bool, true, false, cond, false≢true}
use mathlib.Core.List.{List}
use Prim.Native.Nat.{ℕ, ◌≤◌, ◌<◌}
use native.Mathlib.Omega.{arith}
use borrow.Author.Tests.{eqb-true, lt-leb}
use lib.Dec.{leb, eqb}
use lib.ListN.{length}
use Rattle.model_text.specs.Stamp.{is_short, is_stamp, takes_stamp, longest_short}
use Rattle.model_text.specs.Version.{latest, is_version}
use Rattle.model_text.proofs.Laws.{short_keeps, short_by, short_most}
use Rattle.frame_stamp.specs.Versions.{Spoken, speaks, refused, protocol}

same_by : (a b : Bool) → (a ≡ true → b ≡ true) → (b ≡ true → a ≡ true) → a ≡ b
same_by true true f g = refl
same_by true false f g = sym (f refl)
same_by false true f g = g refl
same_by false false f g = refl

never : (b : Bool) → (b ≡ true → ⊥) → b ≡ false
never true f = absurd (f refl)
never false f = refl

module _ (version : ℕ) (s : List ℕ) where
  takes : (b : Bool) → eqb version latest ≡ b → takes_stamp version s ≡ cond b (is_stamp s) (is_short s)
  unfolding takes_stamp
  takes b e = ap (λ (t : Bool). cond t (is_stamp s) (is_short s)) e

  other : (version ≡ latest → ⊥) → eqb version latest ≡ false
  other f = never (eqb version latest) (λ q. f (eqb-true version latest q))

  pub takes_all : version ≡ latest → is_stamp s ≡ takes_stamp version s
  takes_all e = sym (takes true (ap (λ (n : ℕ). eqb n latest) e))

  pub takes_short : (version ≡ latest → ⊥) → length s ≤ longest_short → is_stamp s ≡ takes_stamp version s
  takes_short f h = same_by (is_stamp s) (is_short s) (λ q. short_by s q h) (short_keeps s) ∙ sym (takes false (other f))

  pub takes_no_long : (version ≡ latest → ⊥) → longest_short < length s → leb (length s) longest_short ≡ takes_stamp version s
  takes_no_long f h = lt-leb (length s) longest_short h ∙ sym (takes false (other f) ∙ never (is_short s) (λ q. let l = short_most s q in omega arith))

-- ---- a version that is handed in

abbrev number : Spoken → ℕ
number (speaks n) = n
number (refused n) = n

abbrev speaks_or_not : Spoken → Bool
speaks_or_not (speaks n) = true
speaks_or_not (refused n) = false

which : (b : Bool) (v : ℕ) → speaks_or_not (cond b (speaks v) (refused 11)) ≡ b
which true v = refl
which false v = refl

pub version_spoken : (n v : ℕ) → speaks n ≡ protocol v → (is_version v ≡ true) × (n ≡ v)
version_spoken n v e = go (is_version v) refl
  where
    go : (b : Bool) → is_version v ≡ b → (is_version v ≡ true) × (n ≡ v)
    go true q = (q, ap number (e ∙ ap (λ (b : Bool). cond b (speaks v) (refused 11)) q))
    go false q = absurd (false≢true (sym (ap speaks_or_not (e ∙ ap (λ (b : Bool). cond b (speaks v) (refused 11)) q))))

pub version_refused : (n v : ℕ) → refused n ≡ protocol v → (is_version v ≡ false) × (n ≡ 11)
version_refused n v e = go (is_version v) refl
  where
    go : (b : Bool) → is_version v ≡ b → (is_version v ≡ false) × (n ≡ 11)
    go true q = absurd (false≢true (ap speaks_or_not (e ∙ ap (λ (b : Bool). cond b (speaks v) (refused 11)) q)))
    go false q = (q, ap number (e ∙ ap (λ (b : Bool). cond b (speaks v) (refused 11)) q))
