-- A session's header, and the changes that stand before and after the messages of a whole sending. Assumes nothing.
use Rattle.std.specs.Prelude.{◌≡◌, Bool, cond, List, [], ◌∷◌, ◌++◌, ℕ, zero, suc, length, get_or}
use Rattle.model_frame.specs.Frame.{Change, reset, set_marks}
use Rattle.model_frame.specs.Sizes.{sizes}
use Rattle.model_session.specs.Whole.{stamp_part, skip_to, incoming_part}
use Rattle.store_place.specs.PlaceWord
use Rattle.store_place.specs.Place.{next_out_of, stored_flight, stamp_of, marks_of, flight_is}
use Rattle.active_header.specs.declared.header.Header.{Header}

-- a header is that of a place
pub record Heads (w b : List ℕ) (h : Header) : Type 0 where
  pub outgoing : h.next_outgoing ≡ next_out_of w
  pub incoming : h.next_incoming ≡ get_or w PlaceWord.next_in 0
  pub flight : flight_is h.in_flight ≡ stored_flight w
  pub stamp_is : h.stamp.now ≡ stamp_of w b
  pub marks_is : h.marks.now ≡ marks_of w b

-- changes: how many, and their bytes
pub record Spans (cs : List Change) (count size : ℕ) : Type 0 where
  pub counts : count ≡ length cs
  pub sums : size ≡ sizes cs

-- before the messages, from number 0: Reset, the stamp if any
abbrev pub opening_of : List ℕ → ℕ → List Change
opening_of stamp zero = reset ∷ stamp_part stamp
opening_of stamp (suc n) = []

-- after the messages, with these marks
abbrev pub closing_with : Header → List ℕ → ℕ → List Change
closing_with h marks next = skip_to next h.next_outgoing ++ (incoming_part h.next_incoming (flight_is h.in_flight) ∷ set_marks marks ∷ [])

-- with the header's own
abbrev pub closing_of : Header → ℕ → List Change
closing_of h next = closing_with h h.marks.now next

-- and only in the last batch
abbrev pub ending_with : Header → List ℕ → Bool → ℕ → List Change
ending_with h marks last next = cond last (closing_with h marks next) []

abbrev pub ending_of : Header → Bool → ℕ → List Change
ending_of h last next = ending_with h h.marks.now last next
