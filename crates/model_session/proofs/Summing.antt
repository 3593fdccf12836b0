-- What a Bound says of a session that the store can hold can be written; FNV-1a's public vectors.
-- Assumes nothing.
use mathlib.Core.Path.{◌≡◌, refl}
use Prim.Native.Nat.{ℕ, ◌*◌, ◌^◌, ◌<◌}
use native.Mathlib.Omega.{arith}
use native.Mathlib.Nat.{mod-lt}
use mathlib.Core.List.{List, [], ◌∷◌, ◌++◌}
use mathlib.Core.Option.{Option, none, some}
use mathlib.Core.Bool.{true, ◌||◌}
use lib.Bits.{bit_xor}
use lib.ListN.{length}
use lib.Dec.{T, eqb, leb→le}
use Rattle.model_frame.specs.Bytes.{bytes_of}
use Rattle.model_frame.specs.Frame.{record_msg, record_bare}
use Rattle.model_frame.specs.Writing.{flight_number, RangedSummary, fine_summary}
use Rattle.model_text.specs.Utf8.{utf8}
use Rattle.model_text.specs.Printable.{is_marks}
use Rattle.model_text.proofs.Laws.{marks_is, takes_is}
use Rattle.model_session.specs.Session.{Session, Msg, new_session, apply, apply_all, keep, top, Holdable, small_flight}
use Rattle.model_session.specs.Summary.{fnv_step, fnv, fnv_start, fnv_message, fnv_messages, numbered_from, last_out, summary}
use Rattle.model_session.proofs.Basics.{T→true, and_true, cond_cases}
use Rattle.model_session.proofs.Writing.{Suits}

pub step_small : (h b : ℕ) → fnv_step h b < 2 ^ 64
unfolding fnv_step
step_small h b = mod-lt (bit_xor h b * 0x100000001b3) (omega arith)

fnv_small : (h : ℕ) (bs : List ℕ) → h < 2 ^ 64 → fnv h bs < 2 ^ 64
fnv_small h [] l = l
fnv_small h (b ∷ bs) l = fnv_small (fnv_step h b) bs (step_small h b)

messages_small : (h : ℕ) (ms : List Msg) → h < 2 ^ 64 → fnv_messages h ms < 2 ^ 64
unfolding fnv_message
messages_small h [] l = l
messages_small h (m ∷ ms) l = messages_small (fnv_message h m) ms (fnv_small h (bytes_of 8 m.num ++ (bytes_of 8 (length m.text) ++ m.text)) l)

pub last_u64 : (s : Session) (n : ℕ) → last_out s n < 2 ^ 64
unfolding last_out
last_u64 s n =
    cond_cases (λ (x : ℕ). x < 2 ^ 64) (eqb n 0 || eqb s.next_out 1) (λ _. omega arith) (λ _. messages_small fnv_start (numbered_from _ s.messages) (omega arith))

module _ (version C M : ℕ) (s : Session) (n : ℕ) (h : Holdable C M s) where
  flight_small : (f : Option ℕ) → T (small_flight f) → flight_number f < 2 ^ 64
  flight_small none t = omega arith
  flight_small (some f) t = omega (arith, leb→le f top t)

  stamp_small : (st : List ℕ) → Suits version st → (utf8 st ≡ true) × (length st < 2 ^ 32)
  unfolding utf8
  stamp_small [] e = (refl, omega arith)
  stamp_small (x ∷ xs) e =
      let i = takes_is version (x ∷ xs) e in
      (i.coded, omega (arith, i.most))

  pub summary_ranged : Suits version s.stamp → RangedSummary (summary s n)
  unfolding summary
  summary_ranged e =
      record {
        out_u64 = omega (arith, h.out_high);
        in_u64 = omega (arith, h.inc_high);
        flight_u64 = flight_small s.in_flight h.flight_high;
        stamp_u32 = (stamp_small s.stamp e).1;
        marks_u32 = omega (arith, (marks_is s.marks (T→true (is_marks s.marks) h.marks_ok)).most);
        last_u64 = last_u64 s n;
      }

  pub summary_fine : Suits version s.stamp → fine_summary version (summary s n) ≡ true
  unfolding summary fine_summary
  summary_fine e =
      let m = T→true (is_marks s.marks) h.marks_ok in
      and_true (and_true (stamp_small s.stamp e).0 e) (and_true (marks_is s.marks m).coded m)

-- ---- points

-- of nothing, of "a", of "foobar"
fnv_vectors : fnv fnv_start [] ∷ fnv fnv_start (97 ∷ []) ∷ fnv fnv_start (102 ∷ 111 ∷ 111 ∷ 98 ∷ 97 ∷ 114 ∷ []) ∷ [] ≡ 0xcbf29ce484222325 ∷ 0xaf63dc4c8601ec8c ∷ 0x85944171f73967e8 ∷ []
unfolding fnv_step
fnv_vectors = refl

-- next outgoing 1 or n 0 gives 0; nothing stored in the range gives the start
range_empty : last_out new_session 5 ∷ last_out (apply 9 9 (record_bare 2) new_session) 0 ∷ last_out (apply 9 9 (record_bare 2) new_session) 5 ∷ [] ≡ 0 ∷ 0 ∷ fnv_start ∷ []
unfolding last_out apply
range_empty = refl

-- an empty message is stored as one, and counts in the hash
empty_stored : (apply 0 1 (record_msg 1 []) new_session).messages ≡ record { num = 1; text = [] } ∷ []
unfolding apply keep
empty_stored = refl

-- number 1 and length 0 in eight bytes each
empty_hashed : last_out (apply 0 1 (record_msg 1 []) new_session) 1 ≡ fnv fnv_start (1 ∷ 0 ∷ 0 ∷ 0 ∷ 0 ∷ 0 ∷ 0 ∷ 0 ∷ 0 ∷ 0 ∷ 0 ∷ 0 ∷ 0 ∷ 0 ∷ 0 ∷ 0 ∷ [])
unfolding last_out apply keep fnv_message bytes_of fnv_step
empty_hashed = refl

-- of messages 1, 2 and 3 a range of two leaves out the first; a range of three, and any longer one, has them all
abbrev three : Session
three = apply_all 9 9 (record_msg 1 (7 ∷ []) ∷ record_msg 2 [] ∷ record_msg 3 (8 ∷ 9 ∷ []) ∷ []) new_session

-- number 2, length 0; number 3, length 2 and its bytes
abbrev two_and_three : List ℕ
two_and_three = 2 ∷ 0 ∷ 0 ∷ 0 ∷ 0 ∷ 0 ∷ 0 ∷ 0 ∷ 0 ∷ 0 ∷ 0 ∷ 0 ∷ 0 ∷ 0 ∷ 0 ∷ 0 ∷ 3 ∷ 0 ∷ 0 ∷ 0 ∷ 0 ∷ 0 ∷ 0 ∷ 0 ∷ 2 ∷ 0 ∷ 0 ∷ 0 ∷ 0 ∷ 0 ∷ 0 ∷ 0 ∷ 8 ∷ 9 ∷ []

range_part :
    last_out three 2 ∷ last_out three 3 ∷ last_out three top ∷ []
    ≡ fnv fnv_start two_and_three ∷ fnv fnv_start (1 ∷ 0 ∷ 0 ∷ 0 ∷ 0 ∷ 0 ∷ 0 ∷ 0 ∷ 1 ∷ 0 ∷ 0 ∷ 0 ∷ 0 ∷ 0 ∷ 0 ∷ 0 ∷ 7 ∷ two_and_three) ∷ fnv fnv_start (1 ∷ 0 ∷ 0 ∷ 0 ∷ 0 ∷ 0 ∷ 0 ∷ 0 ∷ 1 ∷ 0 ∷ 0 ∷ 0 ∷ 0 ∷ 0 ∷ 0 ∷ 0 ∷ 7 ∷ two_and_three) ∷ []
unfolding last_out apply keep fnv_message bytes_of fnv_step
range_part = refl

-- with M = 0 any message, an empty one too, keeps its number only, and nothing else changes; with M = 1 it is stored
none_kept : apply 9 0 (record_msg 1 []) new_session ∷ apply 9 0 (record_msg 1 (7 ∷ [])) new_session ∷ [] ≡ apply 9 0 (record_bare 1) new_session ∷ apply 9 0 (record_bare 1) new_session ∷ []
unfolding apply keep
none_kept = refl
