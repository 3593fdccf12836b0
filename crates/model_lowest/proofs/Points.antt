-- The lowest number of small logs, and what calls hand up, computed. Assumes nothing.
use mathlib.Core.Path.{◌≡◌, refl}
use Prim.Native.Nat.{ℕ}
use mathlib.Core.List.{List, [], ◌∷◌, map}
use Rattle.model_session.specs.Session.{Msg, keep, apply, new_session, apply_all}
use mathlib.Core.Bool.{Bool, true, false}
use mathlib.Core.Option.{Option, none, some}
use Rattle.model_frame.specs.Frame.{Change, record_msg, record_bare, reset, Part, commit, whole, last_whole, diverged, Frame, batch, ack, nack, checked}
use Rattle.model_standby.specs.Answer.{reply, intact}
use Rattle.model_standby.specs.Store.{Place}
use Rattle.model_standby.specs.State.{Standby}
use Rattle.model_lowest.specs.Lowest.{lowest_of, handed_by}

abbrev text : ℕ → List ℕ
text n = n ∷ n ∷ []

-- in a log of 4 bytes and 2 messages
abbrev after : List Change → ℕ
after cs = lowest_of (apply_all 4 2 cs new_session).messages

-- nothing; bare Records alone; one; three, of which two stay; one longer than the log, which leaves the others; a Reset
lowest_so :
    map after
    ([] ∷ (record_bare 5 ∷ []) ∷ (record_msg 1 (text 65) ∷ []) ∷ (record_msg 1 (text 65) ∷ record_msg 2 (text 66) ∷ record_msg 3 (text 67) ∷ [])
    ∷ (record_msg 1 (text 65) ∷ record_msg 2 (65 ∷ 66 ∷ 67 ∷ 68 ∷ 69 ∷ []) ∷ []) ∷ (record_msg 1 (text 65) ∷ record_msg 2 (65 ∷ 66 ∷ 67 ∷ 68 ∷ []) ∷ []) ∷ (record_msg 1 (text 65) ∷ reset ∷ []) ∷ [])
    ≡ 0 ∷ 0 ∷ 1 ∷ 2 ∷ 1 ∷ 2 ∷ 0 ∷ []
unfolding apply keep
lowest_so = refl

-- ---- what a call hands up: handle 9 is bound to the one session, whose lowest number is 1 before the batch

abbrev place_with : List Msg → Place
place_with ms = record { key = record { begin = []; sender = []; target = []; suffix = [] }; stored = record { session = record { stamp = []; next_out = 9; next_in = 1; in_flight = none; marks = []; messages = ms }; durable = false } }

abbrev stands : List Msg → Standby
stands ms =
    record {
      counters = record { epoch = 5; connections = 1; promoted = false; checked = false; version = 1 };
      places = place_with ms ∷ [];
      handles = some (9, record { place = 0; number = 0; held = []; bytes = 0 }) ∷ [];
      pending = [];
    }

abbrev message : ℕ → Msg
message n = record { num = n; text = text 65 }

abbrev before : Standby
before = stands (message 1 ∷ message 2 ∷ [])

abbrev told : Bool → Part → Frame → List Msg → Option ℕ
told commits p f ms = handed_by commits before (record { state = stands ms; answer = reply f }) (intact (batch 9 5 1 p [] []))

abbrev acked : Frame
acked = ack 9 1

-- a Commit, if it is asked for; a LastWhole, asked or not; never a Whole; not a Nack; 0 where the session has no message; another handle's batch; a Checked
told_so :
    told true commit acked (message 2 ∷ [])
    ∷ told false commit acked (message 2 ∷ [])
    ∷ told false last_whole acked (message 2 ∷ [])
    ∷ told true whole acked (message 2 ∷ [])
    ∷ told true commit (nack 9 diverged) (message 2 ∷ [])
    ∷ told true commit acked []
    ∷ handed_by true before (record { state = before; answer = reply acked }) (intact (batch 8 5 1 commit [] []))
    ∷ handed_by true before (record { state = before; answer = reply acked }) (intact (checked 9 5 7))
    ∷ []
    ≡ some 2 ∷ none ∷ some 2 ∷ none ∷ none ∷ some 0 ∷ none ∷ none ∷ []
told_so = refl
