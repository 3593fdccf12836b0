-- One batch of a whole sending by its parts, and the frame that carries it. Assumes nothing.
use Rattle.std.specs.Prelude.{◌≡◌, Bool, true, false, cond, Option, None, Some, Result, Ok, Err, List, [], ◌++◌, ℕ, suc, ◌≤◌, max, length}
use Rattle.std.proofs.Math.Option as maybe
use Rattle.std.proofs.Math.Option.{none, some}
use Rattle.base_refusals.specs.declared.Refusal.{Refusal}
use Rattle.model_frame.specs.Bytes.{write}
use Rattle.model_frame.specs.Frame.{Change, Part, whole, last_whole, Frame, batch}
use Rattle.model_frame.specs.Parse.{is_empty}
use Rattle.model_frame.specs.Writing.{encode}
use Rattle.model_session.specs.Session.{Session, Msg}
use Rattle.model_session.specs.Sender.{sent_part, cut_from}
use Rattle.model_session.specs.Summary.{numbered_from}
use Rattle.store_log.specs.Log.{log_of, rest_of, Position}
use Rattle.store_log.specs.declared.LogPosition.{LogPosition}
use Rattle.store_log.specs.declared.log.Log.{Log}
use Rattle.store_place.specs.Place.{flight_is}
use Rattle.active_messages.specs.Cut.{taken, left_over, next_after}
use Rattle.active_header.specs.declared.header.Header.{Header}
use Rattle.active_header.specs.Ends.{Spans, opening_of, ending_of}
use Rattle.active_batch.specs.declared.Plan.{Plan}
use Rattle.active_batch.specs.declared.BatchWritten.{BatchWritten}

-- the session with this header and these messages
abbrev pub session_with : Header → List Msg → Session
session_with h ms =
    record {
      stamp = h.stamp.now;
      next_out = h.next_outgoing;
      next_in = h.next_incoming;
      in_flight = flight_is h.in_flight;
      marks = h.marks.now;
      messages = ms;
    }

module _ (limit : ℕ) (h : Header) (log : Log) where
  -- the messages that are left at a position
  abbrev pub messages_left : LogPosition → List Msg
  messages_left p = rest_of (length log.bytes.now) log.max log.next log.words.now log.bytes.now p.left

  -- the changes of a batch that goes by a plan
  abbrev pub planned_changes : ℕ → Plan → List Change
  planned_changes from p = opening_of h.stamp.now from ++ (taken limit 0 p.next (messages_left p.position) ++ ending_of h p.last p.resume_from)

  pub record Planned (from : ℕ) (p : Plan) : Type 0 where
    pub stands : Position (length log.bytes.now) log.max log.next log.words.now log.bytes.now p.position.left p.position.dist
    pub starts : messages_left p.position ≡ numbered_from (max from 1) (log_of (length log.bytes.now) log.max log.next log.words.now log.bytes.now)
    pub begins : p.next ≡ max from 1
    pub goes_on : p.resume_from ≡ next_after limit 0 p.next (messages_left p.position)
    pub is_last : p.last ≡ is_empty (left_over limit 0 (messages_left p.position))
    pub spans : Spans (planned_changes from p) p.extent.count p.extent.size
    pub few : p.extent.count ≤ 131077
    pub small : p.extent.size ≤ 34996357

abbrev pub part_is : Bool → Part
part_is true = last_whole
part_is false = whole

-- the frame that carries the batch from a number on
unfoldable pub frame_from : ℕ → Session → ℕ → ℕ → ℕ → ℕ → Frame
frame_from limit a h e n from = batch h e n (sent_part (cut_from limit a from).goes_on) (cut_from limit a from).changes []

-- the number that sending goes on from, if it is not done
abbrev pub resume_from : ℕ → Bool → maybe.Option ℕ
resume_from from done = cond done none (some from)

-- a number that may be missing, as the model has it
abbrev pub number_or_none : Option ℕ → maybe.Option ℕ
number_or_none None = none
number_or_none (Some n) = some n

-- what is answered, and what stands in the lent area: the frame at its start and the rest as it was, or 9 and all as it was
abbrev pub WroteBatch : ℕ → Session → ℕ → ℕ → ℕ → ℕ → List ℕ → List ℕ → Result BatchWritten Refusal → Type 0
WroteBatch limit a h e n from out out' (Ok b) =
    (b.len ≡ length (encode (frame_from limit a h e n from))) × (b.len ≤ length out) × (out' ≡ write out 0 (encode (frame_from limit a h e n from))) × ((cut_from limit a from).goes_on ≡ number_or_none b.resume_from)
WroteBatch limit a h e n from out out' (Err r) = (r ≡ Refusal.NoRoom) × (suc (length out) ≤ length (encode (frame_from limit a h e n from))) × (out' ≡ out)
