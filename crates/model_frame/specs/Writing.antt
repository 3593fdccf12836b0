-- How a frame is written, which frames can be (those without a field that reading would refuse), and what writing one gives. Assumes nothing.
use Rattle.std.specs.Prelude.{ℕ, ◌^◌, ◌<◌, ◌≤◌, ◌≡◌, Bool, true, cond, ◌&&◌, ◌||◌, List, [], ◌∷◌, ◌++◌, ltb, length}
use Rattle.std.proofs.Math.Option.{Option, none, some}
use Rattle.model_text.specs.Utf8.{utf8}
use Rattle.model_text.specs.Printable.{is_marks, is_key}
use Rattle.model_text.specs.Stamp.{takes_stamp}
use Rattle.model_frame.specs.Bytes.{bytes_of, write}
use Rattle.model_frame.specs.Frame.{Key, Change, set_incoming, set_incoming_in_flight, set_in_flight, record_msg, record_bare, reset, set_created_at, set_marks, Part, commit, whole, last_whole, Reason, stale_epoch, diverged, lag_too_great, restarted, AppRecord, Summary, Frame, hello, welcome, bind, batch, ack, nack, bound, checked}
use Rattle.model_frame.specs.Refusal
use Rattle.model_frame.specs.FrameKind
use Rattle.model_frame.specs.ChangeKind
use Rattle.model_frame.specs.PartByte
use Rattle.model_frame.specs.ReasonByte
use Rattle.model_frame.specs.Parse.{is_empty, run_bytes, Each}
use Rattle.model_frame.specs.Reading.{max_body, flight}

unfoldable pub blob_bytes : List ℕ → List ℕ
blob_bytes bs = bytes_of 4 (length bs) ++ bs

unfoldable pub change_bytes : Change → List ℕ
change_bytes (set_incoming n) = ChangeKind.set_incoming ∷ bytes_of 8 n
change_bytes (set_incoming_in_flight n f) = ChangeKind.set_incoming_in_flight ∷ bytes_of 8 n ++ bytes_of 8 f
change_bytes (set_in_flight f) = ChangeKind.set_in_flight ∷ bytes_of 8 f
change_bytes (record_msg n m) = ChangeKind.record_msg ∷ bytes_of 8 n ++ blob_bytes m
change_bytes (record_bare n) = ChangeKind.record_bare ∷ bytes_of 8 n
change_bytes reset = ChangeKind.reset ∷ []
change_bytes (set_created_at t) = ChangeKind.set_created_at ∷ blob_bytes t
change_bytes (set_marks m) = ChangeKind.set_marks ∷ blob_bytes m

unfoldable pub app_record_bytes : AppRecord → List ℕ
app_record_bytes r = bytes_of 2 r.kind ++ blob_bytes r.blob

abbrev pub part_number : Part → ℕ
part_number commit = PartByte.commit
part_number whole = PartByte.whole
part_number last_whole = PartByte.last_whole

abbrev pub reason_number : Reason → ℕ
reason_number stale_epoch = ReasonByte.stale_epoch
reason_number diverged = ReasonByte.diverged
reason_number lag_too_great = ReasonByte.lag_too_great
reason_number restarted = ReasonByte.restarted

abbrev pub flight_number : Option ℕ → ℕ
flight_number none = 0
flight_number (some f) = f

unfoldable pub key_bytes : Key → List ℕ
key_bytes k = blob_bytes k.begin ++ blob_bytes k.sender ++ blob_bytes k.target ++ blob_bytes k.suffix

unfoldable pub summary_bytes : Summary → List ℕ
summary_bytes m =
    bytes_of 8 m.next_out ++ bytes_of 8 m.next_in ++ bytes_of 8 (flight_number m.in_flight)
    ++ blob_bytes m.stamp_text ++ blob_bytes m.marks_text ++ bytes_of 8 m.last_outgoing

unfoldable pub body_bytes : Frame → List ℕ
body_bytes (hello v e node ks) = FrameKind.hello ∷ bytes_of 2 v ++ bytes_of 8 e ++ blob_bytes node ++ bytes_of 4 (length ks) ++ run_bytes (bytes_of 2) ks
body_bytes (welcome e i) = FrameKind.welcome ∷ bytes_of 8 e ++ bytes_of 8 i
body_bytes (bind h e lag k) = FrameKind.bind ∷ bytes_of 4 h ++ bytes_of 8 e ++ bytes_of 8 lag ++ key_bytes k
body_bytes (batch h e n p cs rs) =
    FrameKind.batch ∷ bytes_of 4 h ++ bytes_of 8 e ++ bytes_of 8 n ++ part_number p ∷ bytes_of 4 (length cs) ++ run_bytes change_bytes cs ++ bytes_of 4 (length rs) ++ run_bytes app_record_bytes rs
body_bytes (ack h n) = FrameKind.ack ∷ bytes_of 4 h ++ bytes_of 8 n
body_bytes (nack h r) = FrameKind.nack ∷ bytes_of 4 h ++ reason_number r ∷ []
body_bytes (bound h m) = FrameKind.bound ∷ bytes_of 4 h ++ summary_bytes m
body_bytes (checked h e i) = FrameKind.checked ∷ bytes_of 4 h ++ bytes_of 8 e ++ bytes_of 8 i

unfoldable pub encode : Frame → List ℕ
encode f = bytes_of 4 (length (body_bytes f)) ++ body_bytes f

-- ---- 8 in writing: a field that reading would refuse. Numbers and lengths fit their fields by their types in the code;
-- here `Ranged` says it, and the texts are judged by `fine`.

abbrev pub fine_change : ℕ → Change → Bool
fine_change version (set_incoming n) = true
fine_change version (set_incoming_in_flight n f) = true
fine_change version (set_in_flight f) = true
fine_change version (record_msg n m) = true
fine_change version (record_bare n) = true
fine_change version reset = true
fine_change version (set_created_at t) = utf8 t && takes_stamp version t
fine_change version (set_marks m) = utf8 m && is_marks m

abbrev pub all_fine : ℕ → List Change → Bool
all_fine version [] = true
all_fine version (c ∷ cs) = fine_change version c && all_fine version cs

unfoldable pub fine_key : Key → Bool
fine_key k = utf8 k.begin && (utf8 k.sender && (utf8 k.target && (utf8 k.suffix && is_key k.begin k.sender k.target k.suffix)))

unfoldable pub fine_summary : ℕ → Summary → Bool
fine_summary version m = (utf8 m.stamp_text && (is_empty m.stamp_text || takes_stamp version m.stamp_text)) && (utf8 m.marks_text && is_marks m.marks_text)

unfoldable pub fine : ℕ → Frame → Bool
fine version (hello v e node ks) = utf8 node
fine version (welcome e i) = true
fine version (bind h e lag k) = fine_key k
fine version (batch h e n p cs rs) = all_fine version cs
fine version (ack h n) = true
fine version (nack h r) = true
fine version (bound h m) = fine_summary version m
fine version (checked h e i) = true

abbrev pub RangedChange : Change → Type 0
RangedChange (set_incoming n) = n < 2 ^ 64
RangedChange (set_incoming_in_flight n f) = (n < 2 ^ 64) × (f < 2 ^ 64)
RangedChange (set_in_flight f) = f < 2 ^ 64
RangedChange (record_msg n m) = (n < 2 ^ 64) × (length m < 2 ^ 32)
RangedChange (record_bare n) = n < 2 ^ 64
RangedChange reset = Unit {0}
RangedChange (set_created_at t) = length t < 2 ^ 32
RangedChange (set_marks m) = length m < 2 ^ 32

abbrev pub RangedRecord : AppRecord → Type 0
RangedRecord r = (r.kind < 2 ^ 16) × (length r.blob < 2 ^ 32)

pub record RangedKey (k : Key) : Type 0 where
  pub begin_u32 : length k.begin < 2 ^ 32
  pub sender_u32 : length k.sender < 2 ^ 32
  pub target_u32 : length k.target < 2 ^ 32
  pub suffix_u32 : length k.suffix < 2 ^ 32

pub record RangedSummary (m : Summary) : Type 0 where
  pub out_u64 : m.next_out < 2 ^ 64
  pub in_u64 : m.next_in < 2 ^ 64
  pub flight_u64 : flight_number m.in_flight < 2 ^ 64
  pub stamp_u32 : length m.stamp_text < 2 ^ 32
  pub marks_u32 : length m.marks_text < 2 ^ 32
  pub last_u64 : m.last_outgoing < 2 ^ 64

abbrev pub Ranged : Frame → Type 0
Ranged (hello v e node ks) = (v < 2 ^ 16) × (e < 2 ^ 64) × (length node < 2 ^ 32) × (length ks < 2 ^ 32) × Each (λ (n : ℕ). n < 2 ^ 16) ks
Ranged (welcome e i) = (e < 2 ^ 64) × (i < 2 ^ 64)
Ranged (bind h e lag k) = (h < 2 ^ 32) × (e < 2 ^ 64) × (lag < 2 ^ 64) × RangedKey k
Ranged (batch h e n p cs rs) = (h < 2 ^ 32) × (e < 2 ^ 64) × (n < 2 ^ 64) × (length cs < 2 ^ 32) × Each RangedChange cs × (length rs < 2 ^ 32) × Each RangedRecord rs
Ranged (ack h n) = (h < 2 ^ 32) × (n < 2 ^ 64)
Ranged (nack h r) = h < 2 ^ 32
Ranged (bound h m) = (h < 2 ^ 32) × RangedSummary m
Ranged (checked h e i) = (h < 2 ^ 32) × (e < 2 ^ 64) × (i < 2 ^ 64)

pub record Writable (version : ℕ) (f : Frame) : Type 0 where
  pub ranged : Ranged f
  pub texts : fine version f ≡ true
  pub short : length (body_bytes f) ≤ max_body

-- ---- writing a frame into an area: 8, 1, 9 or the bytes

pub data WriteOutcome : Type 0 where
  wrote : List ℕ → WriteOutcome
  refused : ℕ → WriteOutcome

-- of a frame, or none where it doesn't stand in what it is written from; 8 a field that reading would refuse, or no frame; 1 a body too long; 9 an area too short; in that order
unfoldable pub write_outcome : ℕ → Option Frame → ℕ → WriteOutcome
write_outcome version none room = refused Refusal.unreadable
write_outcome version (some f) room =
    cond (fine version f)
    (cond (ltb max_body (length (body_bytes f))) (refused Refusal.too_long)
    (cond (ltb room (length (encode f))) (refused Refusal.no_room) (wrote (encode f))))
    (refused Refusal.unreadable)

-- the area: the bytes at its start and the rest as it was; a refusal leaves all of it
abbrev pub area_after : WriteOutcome → List ℕ → List ℕ
area_after (wrote bs) out = write out 0 bs
area_after (refused n) out = out

-- the answer's number: how many bytes were written, or the refusal
pub data WriteAnswer : Type 0 where
  took : ℕ → WriteAnswer
  write_refusal : ℕ → WriteAnswer

abbrev pub write_answer : WriteOutcome → WriteAnswer
write_answer (wrote bs) = took (length bs)
write_answer (refused n) = write_refusal n

-- what reading gives back: an in-flight number 0 in a summary becomes none, and nothing else is lost
abbrev pub no_zero : Option ℕ → Option ℕ
no_zero none = none
no_zero (some f) = flight f

abbrev pub shown : Frame → Frame
shown (hello v e node ks) = hello v e node ks
shown (welcome e i) = welcome e i
shown (bind h e lag k) = bind h e lag k
shown (batch h e n p cs rs) = batch h e n p cs rs
shown (ack h n) = ack h n
shown (nack h r) = nack h r
shown (bound h m) =
    bound h
    (record {
      next_out = m.next_out;
      next_in = m.next_in;
      in_flight = no_zero m.in_flight;
      stamp_text = m.stamp_text;
      marks_text = m.marks_text;
      last_outgoing = m.last_outgoing;
    })
shown (checked h e i) = checked h e i
