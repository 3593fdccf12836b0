-- What an import answers across the boundary. Assumes nothing.
use Rattle.std.specs.Prelude.{◌≡◌, List, ℕ, Result, Ok, Err}
use Rattle.model_frame.specs.Frame.{Key}
use Rattle.model_lowest.specs.Lowest.{lowest_of}
use Rattle.store_areas.specs.declared.Shape.{Shape}
use Rattle.store_areas.specs.Areas.{place_at}
use Rattle.base_refusals.specs.Numbers.{number_of}
use Rattle.fix_file.specs.declared.Fault.{Fault}
use Rattle.store_import.specs.Importing.{ImportAt}
use Rattle.c_import.specs.declared.Built.{Built}

-- an answer in document 02's numbers: 0, the place and the lowest number stored of its session, or the refusal and the offset
abbrev pub built_of : Shape → List ℕ → List ℕ → Result ℕ Fault → Built
built_of s w b (Ok i) = record { refusal = 0; place = i; at = 0; lowest = lowest_of (place_at s w b i).stored.session.messages }
built_of s w b (Err f) = record { refusal = number_of f.refusal; place = 0; at = f.at; lowest = 0 }

-- the promise of `store_import::import`, of the answer that is returned in numbers
pub record Imports (s : Shape) (k : Key) (file w w' b b' : List ℕ) (r : Built) : Type 0 where
  pub answer : Result ℕ Fault
  pub returned : r ≡ built_of s w' b' answer
  pub promise : ImportAt s k file w w' b b' answer
