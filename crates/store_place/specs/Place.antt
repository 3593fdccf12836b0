-- What the words and bytes of a place mean: every content of them is a place with a session that the store can hold.
-- Words: 0 next outgoing, 1 next incoming, 2 whether a number is in flight, 3 that number, 4 durable, 5 and 6 the lengths of stamp and marks,
-- 7 to 10 those of the key's texts, 11 to 13 spare; from 14 on the log's (head, tail, entries).
-- Bytes: 0, 32, 64 and 96 the key's texts, 128 the stamp, 160 the marks; from 224 on the ring. Assumes nothing.
use Rattle.std.specs.Prelude as prelude
use Rattle.std.specs.Prelude.{None, Some, ◌≡◌, ℕ, ◌+◌, ◌-◌, ◌≤◌, min, max, Bool, cond, not, ◌&&◌, List, [], ◌∷◌, ◌++◌, length, take, drop, get_or, eqb, ltb}
use Rattle.std.proofs.Math.Option.{Option, none, some}
use Rattle.model_text.specs.Printable.{is_marks}
use Rattle.model_text.specs.Stamp.{is_stamp}
use Rattle.model_frame.specs.Frame.{Key}
use Rattle.model_session.specs.Session.{Session, Msg}
use Rattle.model_session.specs.Summary.{numbered_from}
use Rattle.model_standby.specs.Store.{Place}
use Rattle.store_log.specs.Log.{msg, log_of, rest_of, Position}
use Rattle.store_place.specs.PlaceByte
use Rattle.store_place.specs.PlaceWord
use Rattle.store_place.specs.Only.{Only}

-- a next outgoing number 0 counts as 1
unfoldable pub next_out_of : List ℕ → ℕ
next_out_of w = max (get_or w PlaceWord.next_out 0) 1

unfoldable pub stored_flight : List ℕ → Option ℕ
stored_flight w = cond (eqb (get_or w PlaceWord.has_in_flight 0) 0) none (some (get_or w PlaceWord.in_flight 0))

unfoldable pub durable_of : List ℕ → Bool
durable_of w = not (eqb (get_or w PlaceWord.durable 0) 0)

-- the first n bytes of the field of `size` bytes at `at`; a length beyond the field is cut
unfoldable pub field : List ℕ → ℕ → ℕ → ℕ → List ℕ
field b at size n = take (min n size) (drop at b)

-- a stamp or marks that aren't valid count as none and as empty
unfoldable pub stamp_of : List ℕ → List ℕ → List ℕ
stamp_of w b = cond (is_stamp (field b PlaceByte.stamp PlaceByte.stamp_size (get_or w PlaceWord.stamp_length 0))) (field b PlaceByte.stamp PlaceByte.stamp_size (get_or w PlaceWord.stamp_length 0)) []

unfoldable pub marks_of : List ℕ → List ℕ → List ℕ
marks_of w b = cond (is_marks (field b PlaceByte.marks PlaceByte.marks_size (get_or w PlaceWord.marks_length 0))) (field b PlaceByte.marks PlaceByte.marks_size (get_or w PlaceWord.marks_length 0)) []

unfoldable pub stored_key : List ℕ → List ℕ → Key
stored_key w b =
    record {
      begin = field b PlaceByte.begin PlaceByte.key_text_size (get_or w PlaceWord.begin_length 0);
      sender = field b PlaceByte.sender PlaceByte.key_text_size (get_or w PlaceWord.sender_length 0);
      target = field b PlaceByte.target PlaceByte.key_text_size (get_or w PlaceWord.target_length 0);
      suffix = field b PlaceByte.suffix PlaceByte.key_text_size (get_or w PlaceWord.suffix_length 0);
    }

-- with limits C and M
unfoldable pub session_of : ℕ → ℕ → List ℕ → List ℕ → Session
session_of C M w b =
    record {
      stamp = stamp_of w b;
      next_out = next_out_of w;
      next_in = get_or w PlaceWord.next_in 0;
      in_flight = stored_flight w;
      marks = marks_of w b;
      messages = log_of C M (next_out_of w) (drop PlaceWord.log w) (drop PlaceByte.ring b);
    }

unfoldable pub place_in : ℕ → ℕ → List ℕ → List ℕ → Place
place_in C M w b = record { key = stored_key w b; stored = record { session = session_of C M w b; durable = durable_of w } }

-- a key by its four texts
abbrev pub key_from : List ℕ → List ℕ → List ℕ → List ℕ → Key
key_from begin sender target suffix = record { begin = begin; sender = sender; target = target; suffix = suffix }

-- ---- reading the messages: from a place in the log, `left` are still to be read, `dist` bytes together

unfoldable pub rest_in : ℕ → ℕ → List ℕ → List ℕ → ℕ → List Msg
rest_in C M w b left = rest_of C M (next_out_of w) (drop PlaceWord.log w) (drop PlaceByte.ring b) left

unfoldable pub PositionIn : ℕ → ℕ → List ℕ → List ℕ → ℕ → ℕ → Type 0
PositionIn C M w b left dist = Position C M (next_out_of w) (drop PlaceWord.log w) (drop PlaceByte.ring b) left dist

-- the place where the messages with numbers from low begin
pub record FromIn (C M low : ℕ) (w b : List ℕ) (left dist : ℕ) : Type 0 where
  pub stands : PositionIn C M w b left dist
  pub is : rest_in C M w b left ≡ numbered_from low (session_of C M w b).messages

-- the next message: its number, its bytes in two parts of the place's bytes, and the place after it
pub record NextMessageIn (C M : ℕ) (w b : List ℕ) (left dist number start first rest left' dist' : ℕ) : Type 0 where
  pub is : rest_in C M w b left ≡ msg number (take first (drop start b) ++ take rest (drop PlaceByte.ring b)) ∷ rest_in C M w b left'
  pub stands : PositionIn C M w b left' dist'
  pub inside : start + first ≤ PlaceByte.ring + C
  pub front : rest ≤ C
  pub fewer : left' + 1 ≡ left
  pub nearer : dist' + (first + rest) ≡ dist

-- ---- answers

-- what `in_flight` answers
abbrev pub flight_is : prelude.Option ℕ → Option ℕ
flight_is None = none
flight_is (Some n) = some n

-- the test of `with_b`
abbrev pub ends_in_b : List ℕ → Bool
ends_in_b m = ltb 0 (length m) && eqb (get_or m (length m - 1) 0) 66

-- a text was put into the field of `size` bytes at `at`
pub record PutText (at size : ℕ) (text b b' : List ℕ) : Type 0 where
  pub only : Only at (at + size) b b'
  pub holds : field b' at size (length text) ≡ text
