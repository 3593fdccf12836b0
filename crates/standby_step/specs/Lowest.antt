-- What a call hands up, by its bytes, what was found in the row, and the store as it is left: no entry point's promise cites what is here. Assumes nothing.
use Rattle.std.specs.Prelude.{ℕ, Bool, true, false, cond, ◌&&◌, ◌||◌, List, get_or, eqb, Option, Some, None}
use Rattle.base_flags.specs.Flag.{is_set}
use Rattle.model_frame.specs.FrameKind
use Rattle.model_frame.specs.PartByte
use Rattle.model_standby.specs.State.{Call, on_frame_held, on_frame, flush, disconnected_from, promote, promote_unchecked}
use Rattle.standby_row.specs.declared.lookup.Found.{Found}
use Rattle.standby_row.specs.declared.lookup.Lookup.{Lookup}
use Rattle.store_areas.specs.declared.Shape.{Shape}
use Rattle.store_sessions.specs.Answers.{Answered, gives, refuses}
use Rattle.store_lowest.specs.Lowest.{lowest_in}
use Rattle.standby_state.specs.declared.Settings.{Settings}
use Rattle.standby_state.specs.declared.Answer.{Answer}

-- where a frame's kind and a Batch's part stand
abbrev pub kind_at : ℕ
kind_at = 4

abbrev pub part_at : ℕ
part_at = 25

abbrev pub byte_tells : Bool → ℕ → Bool
byte_tells commits p = eqb p PartByte.last_whole || (commits && eqb p PartByte.commit)

abbrev pub bytes_tell : Bool → List ℕ → Bool
bytes_tell commits f = eqb (get_or f kind_at 0) FrameKind.batch && byte_tells commits (get_or f part_at 0)

abbrev pub call_tells : Bool → Call → Bool
call_tells commits (on_frame_held f) = bytes_tell commits f
call_tells commits (on_frame f) = bytes_tell commits f
call_tells commits (flush n) = false
call_tells commits (disconnected_from n) = false
call_tells commits promote = false
call_tells commits promote_unchecked = false

abbrev pub is_acked : Answer → Bool
is_acked a = eqb a.refusal 0 && eqb a.kind FrameKind.ack

abbrev pub value_of : Answered ℕ → Option ℕ
value_of (gives n) = Some n
value_of (refuses e) = None

-- of the session of the record that was found
abbrev pub own_lowest : Shape → List ℕ → List ℕ → Option Found → Option ℕ
own_lowest s w b None = None
own_lowest s w b (Some f) = value_of (lowest_in s w b f.bound.place)

abbrev pub lowest_told : Settings → Lookup → Call → List ℕ → List ℕ → Answer → Option ℕ
lowest_told s seen call w b a = cond (is_acked a && call_tells (is_set s.tells_lowest) call) (own_lowest s.shape w b seen.own) None
