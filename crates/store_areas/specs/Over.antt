-- What making a view of lent areas answers. Assumes nothing.
use Rattle.std.specs.Prelude.{◌≡◌, ℕ, ◌<◌, true, false, List, get_or, Result, Ok, Err}
use Rattle.base_refusals.specs.declared.Refusal.{Refusal}
use Rattle.store_areas.specs.StoreWord
use Rattle.store_areas.specs.declared.Shape.{Shape}
use Rattle.store_areas.specs.declared.store.View.{View}
use Rattle.store_areas.specs.Areas.{allowed, in_use}

-- a view of areas that keep the rules
pub record ViewOf (s : Shape) (w b : List ℕ) (v : View) : Type 0 where
  pub rules : allowed s w b ≡ true
  pub shape : v.shape ≡ s
  pub words : v.words.now ≡ w
  pub bytes : v.bytes.now ≡ b

abbrev pub ViewOver : Shape → List ℕ → List ℕ → Result View Refusal → Type 0
ViewOver s w b (Ok v) = ViewOf s w b v
ViewOver s w b (Err e) = (allowed s w b ≡ false) × (e ≡ Refusal.RulesBroken)

-- and place i is in use
pub record ViewWith (s : Shape) (w b : List ℕ) (i : ℕ) (v : View) : Type 0 where
  pub in_use : in_use s w b i ≡ true
  pub at : i < get_or v.words.now StoreWord.used 0
  pub shape : v.shape ≡ s
  pub words : v.words.now ≡ w
  pub bytes : v.bytes.now ≡ b

abbrev pub ViewInUse : Shape → List ℕ → List ℕ → ℕ → Result View Refusal → Type 0
ViewInUse s w b i (Ok v) = ViewWith s w b i v
ViewInUse s w b i (Err e) = (in_use s w b i ≡ false) × (e ≡ Refusal.RulesBroken)
