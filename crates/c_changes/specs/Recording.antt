-- What recording a message answers and leaves. Assumes nothing.
use Rattle.std.specs.Prelude.{◌≡◌, ℕ, false, [], ◌∷◌, List, eqb}
use Rattle.model_frame.specs.Frame.{record_msg}
use Rattle.model_lowest.specs.Lowest.{lowest_of}
use Rattle.model_standby.specs.Store.{changed}
use Rattle.store_areas.specs.declared.Shape.{Shape}
use Rattle.c_store.specs.declared.StoreAnswer.{StoreAnswer}
use Rattle.c_store.specs.Total.{session_in, why_no_record, ChangeIs}

-- the message of the next outgoing number is recorded, or a refusal, which has no value; then the value is the lowest number still stored, 0 if none is,
-- also where the message itself isn't kept
pub record RecordIs (s : Shape) (i : ℕ) (text w w' b b' : List ℕ) (r : StoreAnswer) : Type 0 where
  pub change : ChangeIs s i (why_no_record (session_in s w b i).next_out) (changed s.bytes s.messages (record_msg (session_in s w b i).next_out text ∷ [])) w w' b b' r.refusal
  pub lowest : r.refusal ≡ 0 → r.value ≡ lowest_of (session_in s w' b' i).messages
  pub none : eqb r.refusal 0 ≡ false → r.value ≡ 0
