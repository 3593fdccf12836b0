-- The lowest message on hand (request U10): of a session's messages, and what a call on the standby hands up. Assumes nothing.
use Rattle.std.specs.Prelude.{ℕ, Bool, true, false, cond, ◌&&◌, List, [], ◌∷◌}
use Rattle.std.proofs.Math.Option.{Option, none, some, map}
use Rattle.model_frame.specs.Frame.{Part, commit, whole, last_whole, Frame, hello, welcome, bind, batch, ack, nack, bound, checked}
use Rattle.model_session.specs.Session.{Msg, Session}
use Rattle.model_standby.specs.Answer.{Given, damaged, intact, given, Answer, reply, refused, done}
use Rattle.model_standby.specs.Row.{find}
use Rattle.model_standby.specs.Store.{Place, session_at}
use Rattle.model_standby.specs.State.{Bound, Standby, Result, Call, on_frame_held, on_frame, flush, disconnected_from, promote, promote_unchecked}

-- the lowest number still stored, which is the first; 0 if none is
abbrev pub lowest_of : List Msg → ℕ
lowest_of [] = 0
lowest_of (m ∷ ms) = m.num

-- of the session at place n; none if there is no such place
abbrev pub lowest_at : List Place → ℕ → Option ℕ
lowest_at ps n = map (λ (x : Session). lowest_of x.messages) (session_at ps n)

-- of the session that a handle is bound to; a handle that isn't bound has none
abbrev pub lowest_for : Option Bound → List Place → Option ℕ
lowest_for none ps = none
lowest_for (some b) ps = lowest_at ps b.place

-- which parts hand it up, where Commits are to tell it or not
abbrev pub part_tells : Bool → Part → Bool
part_tells commits commit = commits
part_tells commits whole = false
part_tells commits last_whole = true

-- the answer is an Ack
abbrev pub acks_frame : Frame → Bool
acks_frame (hello v e node kinds) = false
acks_frame (welcome e i) = false
acks_frame (bind h e lag k) = false
acks_frame (batch h e n part cs apps) = false
acks_frame (ack h n) = true
acks_frame (nack h r) = false
acks_frame (bound h m) = false
acks_frame (checked h e i) = false

abbrev pub acks : Answer → Bool
acks (reply f) = acks_frame f
acks (refused n) = false
acks done = false

-- what is handed up of bytes that a standby st was given: an applied Commit or LastWhole, once a batch, has the value of its handle's session after it
abbrev pub handed_by : Bool → Standby → Result → Given → Option ℕ
handed_by commits st r (damaged n) = none
handed_by commits st r (intact (hello v e node kinds)) = none
handed_by commits st r (intact (welcome e i)) = none
handed_by commits st r (intact (bind h e lag k)) = none
handed_by commits st r (intact (batch h e n part cs apps)) = cond (acks r.answer && part_tells commits part) (lowest_for (find h st.handles) r.state.places) none
handed_by commits st r (intact (ack h n)) = none
handed_by commits st r (intact (nack h r₁)) = none
handed_by commits st r (intact (bound h m)) = none
handed_by commits st r (intact (checked h e i)) = none

-- by a call from state st that came to r; a frame is read in the connection's version
abbrev pub handed_up : Bool → Standby → Call → Result → Option ℕ
handed_up commits st (on_frame_held f) r = handed_by commits st r (given st.counters.version f)
handed_up commits st (on_frame f) r = handed_by commits st r (given st.counters.version f)
handed_up commits st (flush n) r = none
handed_up commits st (disconnected_from n) r = none
handed_up commits st promote r = none
handed_up commits st promote_unchecked r = none
