-- Demand 3 at work on the code: areas of one place (C = 1, M = 2), a session A that takes two frames, and two lists of calls. Whatever the entry points
-- leave and answer by their contracts, the first list (with an aside, a flush, a frame of a lower epoch, and a drop at its end) makes the session exactly
-- A; the second, cut short by a drop of the current line, leaves it exactly as it was. Assumes nothing.
use mathlib.Core.Path.{◌≡◌, refl, sym, ap, subst, ◌∙◌}
use mathlib.Core.Bool.{Bool, true, false, cond, ◌&&◌, ◌||◌}
use mathlib.Core.List.{List, [], ◌∷◌}
use mathlib.Core.Option.{none, some, map}
use native.Mathlib.Omega.{arith}
use Prim.Native.Nat.{ℕ}
use lib.Dec.{T}
use lib.ListN.{replicate}
use Rattle.model_text.specs.Printable.{is_printable_byte, is_printable, is_marks}
use Rattle.model_frame.specs.Bytes.{le, bytes_of}
use Rattle.model_frame.specs.Frame.{set_incoming, record_msg, reset, set_marks, commit, whole, last_whole, Frame, batch}
use Rattle.model_frame.specs.Parse.{read_bytes, read_num, read_count, many, run_bytes}
use Rattle.model_frame.specs.Reading.{read_changes, read_app_records, read_part, batch_fields, read_fields, read_body, decode}
use Rattle.model_frame.specs.Writing.{body_bytes, encode}
use Rattle.model_session.specs.Session.{Session, Holdable}
use Rattle.model_session.specs.Whole.{whole_batches, whole_frames}
use Rattle.standby_segments.specs.Segments.{hold_areas}
use Rattle.standby_row.specs.declared.Bound.{Bound as BoundRecord}
use Rattle.store_areas.specs.Areas.{place_at, places_of, Rules}
use Rattle.store_areas.proofs.Ruling.{rules_true}
use Rattle.store_areas.proofs.Lifting.{place_is, session_is}
use Rattle.standby_segments.proofs.Meaning.{none_held}
use Rattle.model_text.specs.Version.{latest}
use Rattle.model_standby.specs.Answer.{given, refused, accepted}
use Rattle.model_standby.specs.Answer as answer
use Rattle.model_standby.specs.Store.{Place, session_at}
use Rattle.model_standby.specs.State.{Bound, Call, Result, on_frame_held, on_frame, flush, disconnected_from}
use Rattle.model_standby.specs.Demand.{Aside, by_held, by_frame, is_lower, refused_outside}
use Rattle.model_standby.proofs.Places.{own_made}
use Rattle.model_standby.proofs.Sanity.{damaged_frame}
use Rattle.standby_part.specs.State.{bound_of}
use Rattle.standby_state.specs.declared.Settings.{Settings}
use Rattle.standby_state.specs.declared.Answer.{Answer}
use Rattle.standby_state.specs.Answers.{answer_of}
use Rattle.standby_step.specs.Calls.{room_all}
use Rattle.theorem_whole_copy.specs.Demand.{Lent, stands_for, settings, Calls, Runs, no_calls, call, First, ends, ours, aside, flushes, drops, Start, frames_of_a}
use Rattle.theorem_whole_copy.proofs.Model.{one}
use Rattle.theorem_whole_copy.proofs.Demand3.{demand_3}

-- ---- A, and the areas

abbrev A₁ : Session
A₁ = record { stamp = []; next_out = 3; next_in = 4; in_flight = none; marks = []; messages = record { num = 1; text = 7 ∷ [] } ∷ record { num = 2; text = [] } ∷ [] }

A₁_held : Holdable 1 2 A₁
unfolding is_marks is_printable is_printable_byte
A₁_held =
    record {
      stamp_ok = tt;
      out_low = omega arith;
      out_high = omega arith;
      inc_high = omega arith;
      flight_high = tt;
      marks_ok = tt;
      msgs_rise = ((omega arith, omega arith, tt, (omega arith, omega arith, tt, tt)));
      msgs_bytes = omega arith;
      msgs_count = omega arith;
    }

abbrev s₁ : Settings
s₁ = record { shape = record { places = 1; bytes = 1; messages = 2 }; incarnation = record { 0 = 7 }; max_lag = 0; tells_lowest = 1 }

abbrev h₁ : BoundRecord
h₁ = record { used = 1; handle = 9; place = 0; commit_no = record { 0 = 7 }; held_len = 0; held_bytes = 0 }

abbrev x₁ : Lent
x₁ =
    record {
      counters = record { epoch = record { 0 = 5 }; connections = 1; promoted = 0; checked = 0; version2 = 0 };
      row = h₁ ∷ [];
      words = 1 ∷ replicate 85 0;
      bytes = replicate 225 0;
      holds = hold_areas (replicate 167 0) [];
    }

abbrev place₁ : Place
place₁ = place_at s₁.shape x₁.words x₁.bytes 0

abbrev b₁ : Bound
b₁ = bound_of latest h₁ (hold_areas (replicate 167 0) [])

abbrev B₁ : Session
B₁ = place₁.stored.session

rules₁ : Rules s₁.shape x₁.words x₁.bytes
rules₁ = record { room = record { bytes_limit = omega arith; messages_limit = omega arith; words_long = omega arith; bytes_long = omega arith }; used = omega arith; pending = omega arith }

-- batches are cut where they have more than no message byte
start₁ : Start s₁ 0 A₁ B₁ (record { key = place₁.key; earlier = 0 }) 9 b₁ x₁
unfolding whole_batches
start₁ =
    record {
      allowed = ap (λ (t : Bool). t && true) (rules_true s₁.shape x₁.words x₁.bytes rules₁);
      A_held = A₁_held;
      unpromoted = refl;
      bound_so = refl;
      is_B = session_is s₁.shape x₁.words x₁.bytes 0 (omega arith);
      its_key =
          own_made (places_of s₁.shape x₁.words x₁.bytes) 0 (record { key = place₁.key; earlier = 0 })
          (ap (map (λ (p : Place). p.key)) (place_is s₁.shape x₁.words x₁.bytes 0 (omega arith))) refl;
      nothing_held = none_held latest [];
      suits_so = refl;
      area = omega arith;
      handle_u32 = omega arith;
      epoch_u64 = omega arith;
      sendable = omega arith;
    }

-- ---- A's frames

abbrev f₁ : Frame
f₁ = batch 9 5 8 whole (reset ∷ record_msg 1 (7 ∷ []) ∷ []) []

abbrev f₂ : Frame
f₂ = batch 9 5 9 last_whole (record_msg 2 [] ∷ set_incoming 4 ∷ set_marks [] ∷ []) []

are_frames : frames_of_a s₁ 0 A₁ 9 b₁ x₁ ≡ f₁ ∷ f₂ ∷ []
unfolding whole_frames whole_batches
are_frames = refl

-- ---- the lists

abbrev no_frame : List ℕ
no_frame = 1 ∷ 0 ∷ 0 ∷ []

abbrev stale : Frame
stale = batch 9 4 2 commit [] []

-- bytes that aren't a frame, A's first, a flush, a frame of a lower epoch on A's handle, A's last, a drop of the current line
abbrev calls₁ : List Call
calls₁ = on_frame no_frame ∷ on_frame_held (encode f₁) ∷ flush 1 ∷ on_frame (encode stale) ∷ on_frame (encode f₂) ∷ disconnected_from 1 ∷ []

-- A's first, a drop of the current line, a frame of a lower epoch
abbrev calls₂ : List Call
calls₂ = on_frame_held (encode f₁) ∷ disconnected_from 1 ∷ on_frame (encode stale) ∷ []

-- bytes that aren't a frame get 26
said_26 : {y : Lent} {a : Answer} → Calls s₁ (on_frame no_frame) x₁ y a → Aside 1 5 no_frame (answer_of y.bytes a)
unfolding given decode
said_26 {y} {a} p =
    let o = one s₁ (room_all x₁.row x₁.holds.bytes) start₁.allowed refl p (stands_for s₁ x₁) refl in
    let is : answer_of y.bytes a ≡ refused 26 = o.answer ∙ ap (λ (r : Result). r.answer) (damaged_frame (settings s₁ x₁) (stands_for s₁ x₁) no_frame 26 refl) in
    subst (Aside 1 5 no_frame) (sym is) (refused_outside {n = 26} tt)

-- in whatever version
is_stale : (v : ℕ) (n : answer.Answer) → Aside v 5 (encode stale) n
unfolding given encode body_bytes run_bytes bytes_of decode le read_num read_bytes read_count many read_body read_fields batch_fields read_changes read_app_records read_part
is_stale v n = is_lower {f = stale} refl tt

last_taken : (t : Bool) → T t → some (cond (t || false) A₁ B₁) ≡ some A₁
last_taken true h = refl
last_taken false h = absurd h

-- ---- what they end in

abbrev Ends : Lent → Session → Type 0
Ends z a = session_at (places_of s₁.shape z.words z.bytes) 0 ≡ some a

pub ends_in_A : {z : Lent} → Runs s₁ x₁ calls₁ z → Ends z A₁
unfolding whole_frames whole_batches
ends_in_A {z} (call p₁ (call p₂ (call p₃ (call p₄ (call {y = y₅} {a = a₅} p₅ (call p₆ no_calls)))))) =
    let d : First s₁ 5 (frames_of_a s₁ 0 A₁ 9 b₁ x₁) x₁ calls₁ z =
    aside by_frame p₁ (said_26 p₁) (ours by_held p₂ (flushes 1 p₃ (aside by_frame p₄ (is_stale _ _) (ours by_frame p₅ (drops 1 p₆ ends))))) in
    let c = demand_3 s₁ 0 A₁ B₁ (record { key = place₁.key; earlier = 0 }) 9 b₁ x₁ start₁ calls₁ z d in
    c.is_A_or_B ∙ last_taken (accepted (answer_of y₅.bytes a₅)) c.all_taken.1.0

pub ends_in_B : {z : Lent} → Runs s₁ x₁ calls₂ z → Ends z B₁
unfolding whole_frames whole_batches
ends_in_B {z} (call p₁ (call p₂ (call p₃ no_calls))) =
    let d : First s₁ 5 (frames_of_a s₁ 0 A₁ 9 b₁ x₁) x₁ calls₂ z = ours by_held p₁ (drops 1 p₂ (aside by_frame p₃ (is_stale _ _) ends)) in
    (demand_3 s₁ 0 A₁ B₁ (record { key = place₁.key; earlier = 0 }) 9 b₁ x₁ start₁ calls₂ z d).is_A_or_B
