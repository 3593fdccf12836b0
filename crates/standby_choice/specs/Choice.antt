-- The copies that descriptions and their stores' areas stand for, and what is answered. Assumes nothing.
use Rattle.std.specs.Prelude.{◌≡◌, ℕ, max, Bool, true, cond, not, ◌&&◌, ◌||◌, Option, None, Some, ok_or, Result, Err, List, [], ◌∷◌, length, eqb}
use Rattle.std.specs.List.{list_all}
use Rattle.base_flags.specs.Flag.{is_set}
use Rattle.store_areas.specs.Areas.{Rules, allowed, places_of}
use Rattle.model_choice.specs.Choice as the-model
use Rattle.model_choice.specs.Choice.{chosen}
use Rattle.standby_choice.specs.declared.CopyState.{CopyState}
use Rattle.standby_choice.specs.declared.lent.LentCopy.{LentCopy}
use Rattle.base_refusals.specs.declared.Refusal.{Refusal}

-- ---- one copy and its store's two areas

abbrev pub copy_of : CopyState → List ℕ → List ℕ → the-model.StandbyCopy
copy_of c w b = record { is_listed = is_set c.listed; epoch = c.epoch.0; is_checked = is_set c.checked; places = places_of c.shape w b }

-- what isn't listed isn't looked at
abbrev pub is_sound : CopyState → List ℕ → List ℕ → Bool
is_sound c w b = not (is_set c.listed) || allowed c.shape w b

-- the areas keep the rules, if the copy is listed
abbrev pub RulesIf : CopyState → List ℕ → List ℕ → Type 0
RulesIf c w b = is_set c.listed ≡ true → Rules c.shape w b

-- the higher of an epoch and a checked copy's
abbrev pub raised_by : ℕ → LentCopy → ℕ
raised_by top c = cond (is_set c.copy.listed && is_set c.copy.checked) (max top c.copy.epoch.0) top

-- ---- copies with the areas that are lent of each

abbrev pub copies_of : List LentCopy → List the-model.StandbyCopy
copies_of [] = []
copies_of (c ∷ cs) = copy_of c.copy c.words.now c.bytes.now ∷ copies_of cs

abbrev pub are_sound : List LentCopy → Bool
are_sound = list_all (λ c. is_sound c.copy c.words.now c.bytes.now)

-- the same as facts
abbrev pub Kept : List LentCopy → Type 0
Kept [] = Unit {0}
Kept (c ∷ cs) = RulesIf c.copy c.words.now c.bytes.now × Kept cs

-- the number of the copy that fits, if it is none past the n that there are
abbrev pub fits_at : ℕ → ℕ → Option ℕ
fits_at n i = cond (eqb i n) None (Some i)

-- 25 if a listed copy's store breaks its rules; 39 where none fits; else the copy that is taken
abbrev pub choice_of : List LentCopy → Result ℕ Refusal
choice_of cs = cond (are_sound cs) (ok_or (fits_at (length cs) (chosen (copies_of cs))) Refusal.NoneFits) (Err Refusal.RulesBroken)
