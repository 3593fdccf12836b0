-- FNV-1a (64 bits), and what a Bound says of a session. Assumes nothing.
use Rattle.std.specs.Prelude.{ℕ, ◌*◌, ◌-◌, ◌^◌, ◌%◌, max, List, [], ◌∷◌, ◌++◌, cond, ◌||◌, length, leb, eqb}
use Rattle.std.specs.Int.Bits.{bit_xor}
use Rattle.model_frame.specs.Bytes.{bytes_of}
use Rattle.model_frame.specs.Frame.{Summary}
use Rattle.model_session.specs.Session.{Session, Msg}

-- exclusive or, then the product, kept modulo 2^64
unfoldable pub fnv_step : ℕ → ℕ → ℕ
fnv_step h b = bit_xor h b * 0x100000001b3 % 2 ^ 64

abbrev pub fnv : ℕ → List ℕ → ℕ
fnv h [] = h
fnv h (b ∷ bs) = fnv (fnv_step h b) bs

abbrev pub fnv_start : ℕ
fnv_start = 0xcbf29ce484222325

-- a message's number, length and bytes
unfoldable pub fnv_message : ℕ → Msg → ℕ
fnv_message h m = fnv h (bytes_of 8 m.num ++ (bytes_of 8 (length m.text) ++ m.text))

abbrev pub fnv_messages : ℕ → List Msg → ℕ
fnv_messages h [] = h
fnv_messages h (m ∷ ms) = fnv_messages (fnv_message h m) ms

-- the messages with numbers from `low` on; to next - 1 are all, in every session that the store can hold (`Rising` in `Holdable`)
abbrev pub numbered_from : ℕ → List Msg → List Msg
numbered_from low [] = []
numbered_from low (m ∷ ms) = cond (leb low m.num) (m ∷ numbered_from low ms) (numbered_from low ms)

-- last_outgoing over n
unfoldable pub last_out : Session → ℕ → ℕ
last_out s n = cond (eqb n 0 || eqb s.next_out 1) 0 (fnv_messages fnv_start (numbered_from (max (s.next_out - n) 1) s.messages))

unfoldable pub summary : Session → ℕ → Summary
summary s n = record { next_out = s.next_out; next_in = s.next_in; in_flight = s.in_flight; stamp_text = s.stamp; marks_text = s.marks; last_outgoing = last_out s n }
