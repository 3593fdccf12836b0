-- What the changes that store words only leave: on named words each is an equation that computes. Assumes nothing.
use mathlib.Core.Path.{◌≡◌, refl, sym, ◌∙◌}
use mathlib.Core.Bool.{false, and-false}
use mathlib.Core.List.{List, [], ◌∷◌}
use Prim.Native.Nat.{ℕ, ◌≤◌}
use lib.ListN.{length, set}
use Rattle.model_frame.specs.Frame.{Change, set_incoming, set_incoming_in_flight, set_in_flight}
use Rattle.model_session.specs.Session.{Session, apply}
use Rattle.model_standby.specs.Store.{Place, on_stored, changed, mark_durable}
use Rattle.store_place.specs.Place.{next_out_of, stored_flight, durable_of, stamp_of, marks_of, stored_key, session_of, place_in}
use Rattle.store_place.proofs.Header.{Header, header, header_of}

-- a place with another session, which isn't marked
abbrev pub with_session : Session → Place → Place
with_session s p = record { key = p.key; stored = record { session = s; durable = false } }

pub unmarked : (C M : ℕ) (c : Change) (p : Place) → with_session (apply C M c p.stored.session) p ≡ on_stored (changed C M (c ∷ [])) p
unmarked C M c p = λ i. record { key = p.key; stored = record { session = apply C M c p.stored.session; durable = sym (and-false p.stored.durable) i } }

incoming_at : (C M n : ℕ) (b w : List ℕ) → Header w → place_in C M (set (set (set w 1 n) 2 0) 4 0) b ≡ with_session (apply C M (set_incoming n) (session_of C M w b)) (place_in C M w b)
unfolding place_in session_of next_out_of stored_flight durable_of stamp_of marks_of stored_key apply
incoming_at C M n b w (header a0 a1 a2 a3 a4 a5 a6 a7 a8 a9 a10 a11 a12 a13 ws) = refl

pub incoming : (C M n : ℕ) (b w : List ℕ) → 14 ≤ length w → place_in C M (set (set (set w 1 n) 2 0) 4 0) b ≡ on_stored (changed C M (set_incoming n ∷ [])) (place_in C M w b)
unfolding place_in
incoming C M n b w h = incoming_at C M n b w (header_of w h) ∙ unmarked C M (set_incoming n) (place_in C M w b)

incoming_in_flight_at : (C M n f : ℕ) (b w : List ℕ) → Header w → place_in C M (set (set (set (set w 1 n) 2 1) 3 f) 4 0) b ≡ with_session (apply C M (set_incoming_in_flight n f) (session_of C M w b)) (place_in C M w b)
unfolding place_in session_of next_out_of stored_flight durable_of stamp_of marks_of stored_key apply
incoming_in_flight_at C M n f b w (header a0 a1 a2 a3 a4 a5 a6 a7 a8 a9 a10 a11 a12 a13 ws) = refl

pub incoming_in_flight : (C M n f : ℕ) (b w : List ℕ) → 14 ≤ length w → place_in C M (set (set (set (set w 1 n) 2 1) 3 f) 4 0) b ≡ on_stored (changed C M (set_incoming_in_flight n f ∷ [])) (place_in C M w b)
unfolding place_in
incoming_in_flight C M n f b w h = incoming_in_flight_at C M n f b w (header_of w h) ∙ unmarked C M (set_incoming_in_flight n f) (place_in C M w b)

in_flight_at : (C M f : ℕ) (b w : List ℕ) → Header w → place_in C M (set (set (set w 2 1) 3 f) 4 0) b ≡ with_session (apply C M (set_in_flight f) (session_of C M w b)) (place_in C M w b)
unfolding place_in session_of next_out_of stored_flight durable_of stamp_of marks_of stored_key apply
in_flight_at C M f b w (header a0 a1 a2 a3 a4 a5 a6 a7 a8 a9 a10 a11 a12 a13 ws) = refl

pub in_flight_lem : (C M f : ℕ) (b w : List ℕ) → 14 ≤ length w → place_in C M (set (set (set w 2 1) 3 f) 4 0) b ≡ on_stored (changed C M (set_in_flight f ∷ [])) (place_in C M w b)
unfolding place_in
in_flight_lem C M f b w h = in_flight_at C M f b w (header_of w h) ∙ unmarked C M (set_in_flight f) (place_in C M w b)

marked_at : (C M : ℕ) (b w : List ℕ) → Header w → place_in C M (set w 4 1) b ≡ on_stored mark_durable (place_in C M w b)
unfolding place_in session_of next_out_of stored_flight durable_of stamp_of marks_of stored_key
marked_at C M b w (header a0 a1 a2 a3 a4 a5 a6 a7 a8 a9 a10 a11 a12 a13 ws) = refl

pub marked : (C M : ℕ) (b w : List ℕ) → 14 ≤ length w → place_in C M (set w 4 1) b ≡ on_stored mark_durable (place_in C M w b)
marked C M b w h = marked_at C M b w (header_of w h)
