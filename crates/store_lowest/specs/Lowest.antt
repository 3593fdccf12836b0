-- The lowest message on hand of the session at a place, for every content of the areas. Assumes nothing.
use Rattle.std.specs.Prelude.{ℕ, cond, List, Result, Ok, Err}
use Rattle.base_refusals.specs.declared.Refusal as declared
use Rattle.base_refusals.specs.Numbers.{number_of}
use Rattle.model_frame.specs.Refusal
use Rattle.model_lowest.specs.Lowest.{lowest_of}
use Rattle.store_areas.specs.declared.Shape.{Shape}
use Rattle.store_areas.specs.Areas.{in_use, place_at}
use Rattle.store_sessions.specs.Answers.{Answered, gives, refuses}

abbrev pub lowest_is : Result ℕ declared.Refusal → Answered ℕ
lowest_is (Ok n) = gives n
lowest_is (Err e) = refuses (number_of e)

-- 25 where the rules are broken or the place isn't in use
abbrev pub lowest_in : Shape → List ℕ → List ℕ → ℕ → Answered ℕ
lowest_in s w b i = cond (in_use s w b i) (gives (lowest_of (place_at s w b i).stored.session.messages)) (refuses Refusal.rules_broken)
