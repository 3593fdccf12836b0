-- Worked examples: which words count, and what bytes with words hold. Each by computing. Assumes nothing.
use mathlib.Core.Path.{◌≡◌, refl}
use mathlib.Core.List.{List, [], ◌∷◌}
use Prim.Native.Nat.{ℕ}
use Rattle.model_frame.specs.Bytes.{le}
use Rattle.model_frame.specs.Frame.{record_bare, reset, set_in_flight}
use Rattle.model_frame.specs.Parse.{read_bytes, read_num, collect}
use Rattle.model_frame.specs.Reading.{set_in_flight_fields, record_bare_fields, read_change}
use Rattle.frame_op.specs.Answers.{held_run}
use Rattle.standby_segments.specs.Segments.{closed_ends, total_from, total_run, held_changes, ends_after}

-- ---- the words that count, of 10 bytes held: they rise; the next falls, repeats, lies past the length, is all ones; 0 counts for none

rise : closed_ends (3 ∷ 7 ∷ 10 ∷ []) 0 10 ≡ 3 ∷ 7 ∷ 10 ∷ []
rise = refl

falls : closed_ends (3 ∷ 7 ∷ 6 ∷ 9 ∷ []) 0 10 ≡ 3 ∷ 7 ∷ []
falls = refl

repeats : closed_ends (3 ∷ 3 ∷ 9 ∷ []) 0 10 ≡ 3 ∷ []
repeats = refl

past : closed_ends (3 ∷ 11 ∷ []) 0 10 ≡ 3 ∷ []
past = refl

ones : closed_ends (18446744073709551615 ∷ 3 ∷ []) 0 10 ≡ []
ones = refl

zeros : closed_ends (0 ∷ 3 ∷ []) 0 10 ≡ []
zeros = refl

-- ---- 6 is a Reset, 3 and eight bytes an in-flight number, 9 no change's first byte

abbrev bytes : List ℕ
bytes = 6 ∷ 9 ∷ 3 ∷ 5 ∷ 0 ∷ 0 ∷ 0 ∷ 0 ∷ 0 ∷ 0 ∷ 0 ∷ 9 ∷ 6 ∷ []

-- in the open segment the run ends at the 9; in a closed one each byte counts: each 9 is a Reset, and so is a 3 that is cut off from its number (the 5 behind it is then a Record's first byte)
open-ends : held_changes 1 [] bytes ≡ reset ∷ []
unfolding held_run collect read_change read_num read_bytes le set_in_flight_fields
open-ends = refl

closed-goes-on : held_changes 1 (12 ∷ []) bytes ≡ reset ∷ reset ∷ set_in_flight 5 ∷ reset ∷ reset ∷ []
unfolding total_run total_from held_run collect read_change read_num read_bytes le set_in_flight_fields
closed-goes-on = refl

cut-off : held_changes 1 (3 ∷ []) bytes ≡ reset ∷ reset ∷ reset ∷ record_bare 648518346341351424 ∷ reset ∷ []
unfolding total_run total_from held_run collect read_change read_num read_bytes le set_in_flight_fields record_bare_fields
cut-off = refl

-- ---- the word that a Whole writes: with 5 bytes held and 12 then, the first that doesn't count becomes 0; with 70,000 then, 70,000; where all count, none

stays-open : ends_after (3 ∷ 3 ∷ 9 ∷ []) 5 12 ≡ 3 ∷ 0 ∷ 9 ∷ []
stays-open = refl

is-closed : ends_after (3 ∷ 3 ∷ 9 ∷ []) 5 70000 ≡ 3 ∷ 70000 ∷ 9 ∷ []
is-closed = refl

none-left : ends_after (3 ∷ 4 ∷ []) 5 70000 ≡ 3 ∷ 4 ∷ []
none-left = refl
