-- The stored session: six parts, the eight changes, the limits C (message bytes) and M (messages).
-- Assumes nothing.
use Rattle.std.specs.Prelude.{ℕ, suc, ◌+◌, ◌≤◌, ◌<◌, List, [], ◌∷◌, ◌++◌, Bool, true, cond, ◌&&◌, ◌||◌, length, T, ltb, leb, eqb}
use Rattle.std.proofs.Math.Option.{Option, none, some}
use Rattle.model_text.specs.Printable.{is_marks}
use Rattle.model_text.specs.Stamp.{is_stamp, takes_stamp}
pub use Rattle.model_frame.specs.Bytes.{is_bytes}
use Rattle.model_frame.specs.Parse.{is_empty}
use Rattle.model_frame.specs.Frame.{Change, set_incoming, set_incoming_in_flight, set_in_flight, record_msg, record_bare, reset, set_created_at, set_marks}

-- 2^64 - 1, the greatest u64
abbrev pub top : ℕ
top = 18446744073709551615

-- a stored message: its number and its bytes
pub record Msg : Type 0 where
  pub num : ℕ
  pub text : List ℕ

pub record Session : Type 0 where
  -- [] for none
  pub stamp : List ℕ
  -- next outgoing, next incoming, in flight
  pub next_out : ℕ
  pub next_in : ℕ
  pub in_flight : Option ℕ
  pub marks : List ℕ
  -- oldest first
  pub messages : List Msg

abbrev pub new_session : Session
new_session = record { stamp = []; next_out = 1; next_in = 1; in_flight = none; marks = []; messages = [] }

-- the bytes of the messages
abbrev pub stored_bytes : List Msg → ℕ
stored_bytes [] = 0
stored_bytes (m ∷ ms) = length m.text + stored_bytes ms

module _ (C M : ℕ) where
  -- one more message of n bytes fits
  abbrev pub has_space : ℕ → List Msg → Bool
  has_space n ms = leb (stored_bytes ms + n) C && leb (suc (length ms)) M

  -- the oldest go until it fits
  abbrev pub evict : ℕ → List Msg → List Msg
  evict n [] = []
  evict n (m ∷ ms) = cond (has_space n (m ∷ ms)) (m ∷ ms) (evict n ms)

  -- a message longer than C, or any with M = 0, keeps its number only
  unfoldable pub keep : Msg → List Msg → List Msg
  keep m ms = cond (leb (length m.text) C && ltb 0 M) (evict (length m.text) ms ++ (m ∷ [])) ms

  unfoldable pub apply : Change → Session → Session
  apply (set_incoming n) s = record { stamp = s.stamp; next_out = s.next_out; next_in = n; in_flight = none; marks = s.marks; messages = s.messages }
  apply (set_incoming_in_flight n f) s = record { stamp = s.stamp; next_out = s.next_out; next_in = n; in_flight = some f; marks = s.marks; messages = s.messages }
  apply (set_in_flight f) s = record { stamp = s.stamp; next_out = s.next_out; next_in = s.next_in; in_flight = some f; marks = s.marks; messages = s.messages }
  apply (record_msg q w) s = record { stamp = s.stamp; next_out = suc q; next_in = s.next_in; in_flight = s.in_flight; marks = s.marks; messages = keep (record { num = q; text = w }) s.messages }
  apply (record_bare q) s = record { stamp = s.stamp; next_out = suc q; next_in = s.next_in; in_flight = s.in_flight; marks = s.marks; messages = s.messages }
  apply reset s = new_session
  apply (set_created_at t) s = record { stamp = t; next_out = s.next_out; next_in = s.next_in; in_flight = s.in_flight; marks = s.marks; messages = s.messages }
  apply (set_marks m) s = record { stamp = s.stamp; next_out = s.next_out; next_in = s.next_in; in_flight = s.in_flight; marks = m; messages = s.messages }

  abbrev pub apply_all : List Change → Session → Session
  apply_all [] s = s
  apply_all (c ∷ cs) s = apply_all cs (apply c s)

-- whether the outgoing numbers of the changes follow on from `next`: a number below next, a message off next,
-- or a Record of 2^64 - 1 does not
abbrev pub fits : ℕ → List Change → Bool
fits next [] = true
fits next (record_msg q w ∷ cs) = eqb q next && ltb q top && fits (suc q) cs
fits next (record_bare q ∷ cs) = leb next q && ltb q top && fits (suc q) cs
fits next (reset ∷ cs) = fits 1 cs
fits next (set_incoming n ∷ cs) = fits next cs
fits next (set_incoming_in_flight n f ∷ cs) = fits next cs
fits next (set_in_flight f ∷ cs) = fits next cs
fits next (set_created_at t ∷ cs) = fits next cs
fits next (set_marks m ∷ cs) = fits next cs

-- the message bytes of a change, and of a list of them
abbrev pub message_length : Change → ℕ
message_length (set_incoming n) = 0
message_length (set_incoming_in_flight n f) = 0
message_length (set_in_flight f) = 0
message_length (record_msg q w) = length w
message_length (record_bare q) = 0
message_length reset = 0
message_length (set_created_at t) = 0
message_length (set_marks m) = 0

abbrev pub message_bytes : List Change → ℕ
message_bytes [] = 0
message_bytes (c ∷ cs) = message_length c + message_bytes cs

-- ---- what the store can hold

-- the numbers rise, are at least `low` and below `next`; the texts are bytes
abbrev pub Rising : ℕ → ℕ → List Msg → Type 0
Rising low next [] = Unit {0}
Rising low next (m ∷ ms) = (low ≤ m.num) × (m.num < next) × T (is_bytes m.text) × Rising (suc m.num) next ms

abbrev pub small_flight : Option ℕ → Bool
small_flight none = true
small_flight (some f) = leb f top

abbrev pub is_stamp_or_none : List ℕ → Bool
is_stamp_or_none [] = true
is_stamp_or_none (b ∷ bs) = is_stamp (b ∷ bs)

-- reading takes the stamp in this version, if there is one
abbrev pub suits : ℕ → List ℕ → Bool
suits version stamp = is_empty stamp || takes_stamp version stamp

pub record Holdable (C M : ℕ) (s : Session) : Type 0 where
  pub stamp_ok : T (is_stamp_or_none s.stamp)
  pub out_low : 1 ≤ s.next_out
  pub out_high : s.next_out ≤ top
  pub inc_high : s.next_in ≤ top
  pub flight_high : T (small_flight s.in_flight)
  pub marks_ok : T (is_marks s.marks)
  pub msgs_rise : Rising 1 s.next_out s.messages
  pub msgs_bytes : stored_bytes s.messages ≤ C
  pub msgs_count : length s.messages ≤ M
