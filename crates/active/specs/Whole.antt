-- Sending a session of a store whole, one frame a call: what the code's state, answers and lent area are. Assumes nothing.
use Rattle.std.specs.Prelude.{◌≡◌, ℕ, zero, suc, ◌+◌, ◌*◌, ◌≤◌, Bool, false, cond, not, None, Some, Result, Ok, Err, List, [], ◌∷◌, ◌++◌, map, length, take, ltb, leb}
use Rattle.std.specs.Prelude as answer
use Rattle.std.proofs.Math.Option.{Option, none, some}
use Rattle.base_refusals.specs.Numbers.{number_of}
use Rattle.base_refusals.specs.declared.Refusal as why
use Rattle.model_text.specs.Version.{is_version}
use Rattle.model_frame.specs.Refusal
use Rattle.model_frame.specs.Bytes.{write}
use Rattle.model_frame.specs.Frame.{Frame}
use Rattle.model_frame.specs.Writing.{encode}
use Rattle.model_session.specs.Session.{Session, top, suits}
use Rattle.model_session.specs.Sender.{Sender, new_sender, send_next, cannot_send}
use Rattle.model_session.specs.Whole.{whole_frames, longest_like, batch_limit}
use Rattle.model_standby.specs.Store.{session_at}
use Rattle.store_areas.specs.declared.Shape.{Shape}
use Rattle.store_areas.specs.Areas.{allowed, places_of}
use Rattle.active_batch.specs.Batch.{number_or_none}
use Rattle.active.specs.declared.Line.{Line}
use Rattle.active.specs.declared.Sending.{Sending}
use Rattle.active.specs.declared.Sent.{Sent}

-- a batch with more message bytes than these is full on a branch line, which takes smaller frames
abbrev pub branch_limit : ℕ
branch_limit = 16384

-- the message bytes above which a batch is full, on each line: what is said below of any limit is used for these two
abbrev pub limit_of : Line → ℕ
limit_of Line.HeadOffice = batch_limit
limit_of Line.Branch = branch_limit

-- the model's sender
abbrev pub sender_of : Sending → Sender
sender_of s = record { handle = s.handle; epoch = s.epoch.0; last = s.last.0; from = number_or_none s.from }

-- the session at a place; none, which is 25, where the areas break the rules or the place holds no session
unfoldable pub stored_at : Shape → List ℕ → List ℕ → ℕ → Option Session
stored_at s w b i = cond (allowed s w b) (session_at (places_of s w b) i) none

-- ---- beginning

-- a refusal's number, or what to hand to the first call: a place, a version and a sender
pub data SendStart : Type 0 where
  refused : ℕ → SendStart
  ready : ℕ → ℕ → Sender → SendStart

abbrev pub start_of : Result Sending why.Refusal → SendStart
start_of (Ok s) = ready s.place s.version (sender_of s)
start_of (Err e) = refused (number_of e)

-- 25, 11, 32 and 24, in this order
unfoldable pub start_from : ℕ → ℕ → Option Session → ℕ → ℕ → ℕ → ℕ → SendStart
start_from limit version none i h e last = refused Refusal.rules_broken
start_from limit version (some a) i h e last =
    cond (not (is_version version)) (refused Refusal.bad_version)
    (cond (not (suits version a.stamp)) (refused Refusal.long_stamp)
    (cond (cannot_send limit a (new_sender h e last)) (refused Refusal.numbers_past) (ready i version (new_sender h e last))))

-- what is begun is on this line
abbrev pub BegunOn : Line → Result Sending why.Refusal → Type 0
BegunOn line (Ok s) = s.line ≡ line
BegunOn line (Err e) = Unit {0}

-- THE PROMISE OF BEGINNING: the store is only read
pub record Begins (limit : ℕ) (line : Line) (version : ℕ) (shape : Shape) (w b : List ℕ) (i h e last : ℕ) (r : Result Sending why.Refusal) : Type 0 where
  pub start : start_of r ≡ start_from limit version (stored_at shape w b i) i h e last
  pub begun_on : BegunOn line r

-- ---- one call

-- a refusal's number; a frame's length and what to hand to the next call; done
pub data SendStep : Type 0 where
  refused : ℕ → SendStep
  gives : ℕ → ℕ → ℕ → Sender → SendStep
  finished : SendStep

abbrev pub SendAnswer : Type 0
SendAnswer = Result (answer.Option Sent) why.Refusal

abbrev pub step_of : SendAnswer → SendStep
step_of (Ok (Some s)) = gives s.len s.next.place s.next.version (sender_of s.next)
step_of (Ok None) = finished
step_of (Err e) = refused (number_of e)

-- a frame is still to be sent, and its commit number would pass 2^64 - 1: no operation leaves such a state
abbrev pub spent : ℕ → Option ℕ → Bool
spent last none = false
spent last (some n) = leb top last

-- the frame still to be sent is the one with the stamp, which reading wouldn't take in this version: the store may have changed since the beginning
abbrev pub unsuited : ℕ → List ℕ → Option ℕ → Bool
unsuited version stamp none = false
unsuited version stamp (some zero) = not (suits version stamp)
unsuited version stamp (some (suc n)) = false

-- why nothing of a session is sent, whatever the area: 25, 11 or 32, in this order
abbrev pub turned_down : ℕ → Session → Sender → Option ℕ
turned_down version a s =
    cond (spent s.last s.from) (some Refusal.rules_broken)
    (cond (not (is_version version)) (some Refusal.bad_version)
    (cond (unsuited version a.stamp s.from) (some Refusal.long_stamp) none))

-- 9 where the frame is longer than the area
abbrev pub send_answer : ℕ → ℕ → ℕ → Option (Frame × Sender) → SendStep
send_answer room i version none = finished
send_answer room i version (some (f, t)) = cond (ltb room (length (encode f))) (refused Refusal.no_room) (gives (length (encode f)) i version t)

abbrev pub unless_refused : Option ℕ → SendStep → SendStep
unless_refused none x = x
unless_refused (some n) x = refused n

unfoldable pub step_from : ℕ → ℕ → Option Session → ℕ → Sender → ℕ → SendStep
step_from limit version none i s room = refused Refusal.rules_broken
step_from limit version (some a) i s room = unless_refused (turned_down version a s) (send_answer room i version (send_next limit a s))

-- what the area holds then: the frame at its start, and the rest as it was; without a frame all is as it was
abbrev pub filled_by : Option (Frame × Sender) → List ℕ → List ℕ
filled_by none out = out
filled_by (some (f, t)) out = cond (ltb (length out) (length (encode f))) out (write out 0 (encode f))

abbrev pub filled_unless : Option ℕ → Option (Frame × Sender) → List ℕ → List ℕ
filled_unless none x out = filled_by x out
filled_unless (some n) x out = out

unfoldable pub area_from : ℕ → ℕ → Option Session → Sender → List ℕ → List ℕ
area_from limit version none s out = out
area_from limit version (some a) s out = filled_unless (turned_down version a s) (send_next limit a s) out

-- the line stays with the sending
abbrev pub StaysOn : Line → SendAnswer → Type 0
StaysOn line (Ok (Some s)) = s.next.line ≡ line
StaysOn line (Ok None) = Unit {0}
StaysOn line (Err e) = Unit {0}

-- THE PROMISE OF A CALL: the store is only read
pub record SendsWhole (limit : ℕ) (shape : Shape) (w b : List ℕ) (s : Sending) (out out' : List ℕ) (r : SendAnswer) : Type 0 where
  pub answer : step_of r ≡ step_from limit s.version (stored_at shape w b s.place) s.place (sender_of s) (length out)
  pub area : out' ≡ area_from limit s.version (stored_at shape w b s.place) (sender_of s) out
  pub stays_on : StaysOn s.line r

-- calls, one after the other, over one store: the frames that they gave, as bytes, and the state that the last one left
pub data SendCalls (limit : ℕ) (shape : Shape) (w b : List ℕ) : Sending → List (List ℕ) → Sending → Type 0 where
  nothing : {s : Sending} → SendCalls limit shape w b s [] s
  too_short : {s t : Sending} {fs : List (List ℕ)} {out out' : List ℕ} → SendsWhole limit shape w b s out out' (Err why.Refusal.NoRoom) → SendCalls limit shape w b s fs t → SendCalls limit shape w b s fs t
  frame : {s s' t : Sending} {fs : List (List ℕ)} {out out' : List ℕ} {len : ℕ} → SendsWhole limit shape w b s out out' (Ok (Some (record { len = len; next = s' }))) → SendCalls limit shape w b s' fs t
      → SendCalls limit shape w b s (take len out' ∷ fs) t

-- the frames given so far are these, as bytes, and those still to come are `left`
pub record Sofar (frames : List Frame) (fs : List (List ℕ)) : Type 0 where
  pub sent : List Frame
  pub left : List Frame
  pub all : frames ≡ sent ++ left
  pub bytes : fs ≡ map encode sent

-- WHAT CALLS FROM A BEGINNING COME TO, over one store: the frames given are the first of those that send the session whole, as bytes, once each
-- in order. The rest is said of any next call: it answers "done" when no frame is left and no sooner, with the area as it was; 25, 11 and 32 never;
-- and 9 never in an area of C + 22 × M + 156 bytes, of which 21 are for the stamp, and 9 more for a long one.
pub record SentWhole (limit : ℕ) (shape : Shape) (w b : List ℕ) (a : Session) (h e last : ℕ) (fs : List (List ℕ)) (t : Sending) : Type 0 where
  pub so : Sofar (whole_frames limit h e last a) fs
  pub at_end : (out out' : List ℕ) (r : SendAnswer) → so.left ≡ [] → SendsWhole limit shape w b t out out' r → (r ≡ Ok None) × (out' ≡ out)
  pub then_all : (out out' : List ℕ) → SendsWhole limit shape w b t out out' (Ok None) → fs ≡ map encode (whole_frames limit h e last a)
  pub never_unfit : (out out' : List ℕ) → SendsWhole limit shape w b t out out' (Err why.Refusal.RulesBroken) → ⊥
  pub never_other_version : (out out' : List ℕ) → SendsWhole limit shape w b t out out' (Err why.Refusal.BadVersion) → ⊥
  pub never_long : (out out' : List ℕ) → SendsWhole limit shape w b t out out' (Err why.Refusal.LongStamp) → ⊥
  pub never_short : (out out' : List ℕ) → shape.bytes + 22 * shape.messages + (135 + longest_like a.stamp) ≤ length out → SendsWhole limit shape w b t out out' (Err why.Refusal.NoRoom) → ⊥
