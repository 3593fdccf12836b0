-- Demand 3 is no empty claim: a start, in an odd state, and two first lists with asides, flushes and drops, all computed. By the
-- theorem the first makes the session A and the second, cut by a drop of the current line, leaves B.
-- Assumes nothing.
use mathlib.Core.Path.{◌≡◌, refl, ap, ◌∙◌}
use native.Mathlib.Omega.{arith}
use Prim.Native.Nat.{ℕ}
use mathlib.Core.List.{List, [], ◌∷◌, map}
use lib.ListN.{replicate}
use mathlib.Core.Option.{none, some}
use mathlib.Core.Bool.{Bool, true, false, cond}
use Rattle.model_text.specs.Utf8.{utf8, well_formed, lead_length, own_bits, least, fitting, is_scalar, is_surrogate}
use Rattle.model_text.specs.Printable.{is_printable_byte, is_printable, is_marks, is_key}
use Rattle.model_text.specs.Calendar.{is_leap, month_days}
use Rattle.model_text.specs.Stamp.{is_digit, is_pair, has_digits, day_exists, is_short, is_stamp, takes_stamp}
use Rattle.model_frame.specs.Bytes.{le, bytes_of}
use Rattle.model_frame.specs.Frame.{set_incoming_in_flight, set_in_flight, record_msg, record_bare, reset, set_created_at, set_marks, commit, whole, last_whole, diverged, Frame, bind, batch, ack, nack}
use Rattle.model_frame.specs.Parse.{read_bytes, read_num, read_blob, read_text, read_count, many, run_bytes}
use Rattle.model_frame.specs.Reading.{read_stamp, read_marks, set_incoming_in_flight_fields, record_msg_fields, record_bare_fields, set_created_at_fields, set_marks_fields, read_change, read_changes, read_app_records, read_part, read_key, bind_fields, batch_fields, ack_fields, read_fields, read_body, decode}
use Rattle.model_frame.specs.Writing.{blob_bytes, change_bytes, key_bytes, body_bytes, encode}
use Rattle.model_session.specs.Session.{Session, new_session, apply, apply_all, keep, Holdable}
use Rattle.model_session.specs.Whole.{whole_batches, whole_frames}
use Rattle.model_standby.specs.Answer.{given, Answer, reply, refused}
use Rattle.model_standby.specs.Row.{put}
use Rattle.model_standby.specs.Store.{session_at}
use Rattle.model_standby.specs.State.{Settings, Bound, Standby, Call, on_frame_held, on_frame, flush, disconnected_from}
use Rattle.model_standby.specs.Handles.{apart}
use Rattle.model_standby.specs.Standby.{on_bind, on_batch, on_handle, on_part, hold, settle, on_given, step, run}
use Rattle.model_standby.specs.PlainCopy.{OwnKey, copy_at, copy_run}
use Rattle.model_standby.specs.Demand.{ModelStart, by_held, by_frame, is_lower, refused_outside, FirstList, list_ends, ours_next, aside_next, flush_next, drop_next, model_took_last}
use Rattle.model_standby.proofs.Demand3.{demand_3}
use Rattle.model_standby.proofs.Examples.{L₀, key_of, answers, long_text}

-- ---- a session with messages 2, 3 and 6 and next outgoing 9

abbrev A₀ : Session
A₀ =
    record {
      stamp = 50 ∷ 48 ∷ 50 ∷ 53 ∷ 49 ∷ 49 ∷ 49 ∷ 53 ∷ 45 ∷ 50 ∷ 51 ∷ 58 ∷ 53 ∷ 57 ∷ 58 ∷ 54 ∷ 48 ∷ [];
      next_out = 9;
      next_in = 4;
      in_flight = some 3;
      marks = 66 ∷ [];
      messages = record { num = 2; text = 1 ∷ 1 ∷ 1 ∷ 1 ∷ [] } ∷ record { num = 3; text = [] } ∷ record { num = 6; text = 7 ∷ [] } ∷ [];
    }

A₀_held : Holdable 4096 64 A₀
unfolding is_short is_stamp has_digits day_exists month_days is_leap is_pair is_digit is_marks is_printable is_printable_byte
A₀_held =
    record {
      stamp_ok = tt;
      out_low = omega arith;
      out_high = omega arith;
      inc_high = omega arith;
      flight_high = tt;
      marks_ok = tt;
      msgs_rise = ((omega arith, omega arith, tt, (omega arith, omega arith, tt, (omega arith, omega arith, tt, tt))));
      msgs_bytes = omega arith;
      msgs_count = omega arith;
    }

-- ---- a start: handle 9 at number 7, with an odd byte sum; its session's place is the second with those key bytes; other
-- handles hold changes, a pending commit names no place

abbrev b₀ : Bound
b₀ = record { place = 1; number = 7; held = []; bytes = 4294967297 }

abbrev k₀ : OwnKey
k₀ = record { key = key_of 65; earlier = 1 }

abbrev s₀ : Standby
s₀ =
    record {
      counters = record { epoch = 5; connections = 1; promoted = false; checked = false; version = 1 };
      places =
          record { key = key_of 65; stored = record { session = A₀; durable = true } }
          ∷ record { key = key_of 65; stored = record { session = new_session; durable = false } }
          ∷ record { key = key_of 66; stored = record { session = A₀; durable = true } }
          ∷ [];
      handles = some (4, record { place = 0; number = 0; held = reset ∷ []; bytes = 0 }) ∷ none ∷ some (9, b₀) ∷ some (8, record { place = 2; number = 0; held = set_in_flight 0 ∷ []; bytes = 0 }) ∷ [];
      pending = (9, 8) ∷ (3, 1) ∷ [];
    }

a_start : ModelStart L₀ 3 A₀ new_session k₀ 9 b₀ s₀
unfolding whole_batches takes_stamp is_short has_digits day_exists month_days is_leap is_pair is_digit
a_start =
    record {
      C_limit = omega arith;
      M_limit = omega arith;
      A_held = A₀_held;
      unpromoted = refl;
      row_apart = refl;
      bound_so = refl;
      is_B = refl;
      its_key = refl;
      nothing_held = refl;
      suits_so = refl;
      area = omega arith;
      handle_u32 = omega arith;
      epoch_u64 = omega arith;
      sendable = omega arith;
    }

-- ---- A's frames, with batches of at most 3 message bytes and the message that passes them

abbrev f₁ : Frame
f₁ = batch 9 5 8 whole (reset ∷ set_created_at A₀.stamp ∷ record_bare 1 ∷ record_msg 2 (1 ∷ 1 ∷ 1 ∷ 1 ∷ []) ∷ []) []

abbrev f₂ : Frame
f₂ = batch 9 5 9 last_whole (record_msg 3 [] ∷ record_bare 5 ∷ record_msg 6 (7 ∷ []) ∷ record_bare 8 ∷ set_incoming_in_flight 4 3 ∷ set_marks (66 ∷ []) ∷ []) []

-- ---- two first lists

-- bytes that aren't a frame, A's first, a stale Batch on A's handle, a flush, a drop of another line, A's last, an Ack
abbrev calls₁ : List Call
calls₁ = on_frame (1 ∷ 0 ∷ 0 ∷ []) ∷ on_frame_held (encode f₁) ∷ on_frame (encode (batch 9 4 2 commit [] [])) ∷ flush 1 ∷ disconnected_from 0 ∷ on_frame (encode f₂) ∷ on_frame_held (encode (ack 9 9)) ∷ []

unfoldable list₁ : FirstList L₀ 5 (whole_frames 3 9 5 7 A₀) s₀ calls₁
unfolding whole_frames whole_batches step on_given on_batch on_handle on_part hold settle apply keep put given encode body_bytes blob_bytes change_bytes run_bytes bytes_of decode le read_num read_bytes read_blob read_text read_count many read_body read_fields batch_fields ack_fields read_changes read_change set_incoming_in_flight_fields record_msg_fields record_bare_fields set_created_at_fields set_marks_fields read_app_records read_part read_stamp read_marks utf8 well_formed lead_length own_bits least fitting is_scalar is_surrogate is_printable_byte is_printable is_marks is_digit is_pair is_short is_stamp has_digits day_exists month_days is_leap takes_stamp
list₁ =
    aside_next by_frame (refused_outside {n = 26} tt)
    (ours_next by_held
    (aside_next by_frame (is_lower {f = batch 9 4 2 commit [] []} refl tt)
    (flush_next 1
    (drop_next 0
    (ours_next by_frame
    (aside_next by_held (refused_outside {n = 19} tt) list_ends))))))

took₁ : model_took_last list₁ ≡ true
unfolding list₁ whole_frames whole_batches step on_given on_batch on_handle on_part hold settle apply keep put given encode body_bytes blob_bytes change_bytes run_bytes bytes_of decode le read_num read_bytes read_blob read_text read_count many read_body read_fields batch_fields ack_fields read_changes read_change set_incoming_in_flight_fields record_msg_fields record_bare_fields set_created_at_fields set_marks_fields read_app_records read_part read_stamp read_marks utf8 well_formed lead_length own_bits least fitting is_scalar is_surrogate is_printable_byte is_printable is_marks is_digit is_pair is_short is_stamp has_digits day_exists month_days is_leap takes_stamp
took₁ = refl

-- by the theorem
made_A : session_at (run L₀ s₀ calls₁).places 1 ≡ some A₀
made_A = (demand_3 L₀ 3 A₀ new_session k₀ 9 b₀ s₀ a_start calls₁ list₁).is_A_or_B ∙ ap (λ (x : Bool). some (cond x A₀ new_session)) took₁

-- A's first, a drop of the current line, A's last
abbrev calls₂ : List Call
calls₂ = on_frame_held (encode f₁) ∷ disconnected_from 1 ∷ on_frame (encode f₂) ∷ []

unfoldable list₂ : FirstList L₀ 5 (whole_frames 3 9 5 7 A₀) s₀ calls₂
unfolding whole_frames whole_batches step on_given on_batch on_handle on_part hold settle apply keep put given encode body_bytes blob_bytes change_bytes run_bytes bytes_of decode le read_num read_bytes read_blob read_text read_count many read_body read_fields batch_fields ack_fields read_changes read_change set_incoming_in_flight_fields record_msg_fields record_bare_fields set_created_at_fields set_marks_fields read_app_records read_part read_stamp read_marks utf8 well_formed lead_length own_bits least fitting is_scalar is_surrogate is_printable_byte is_printable is_marks is_digit is_pair is_short is_stamp has_digits day_exists month_days is_leap takes_stamp
list₂ = ours_next by_held (drop_next 1 (ours_next by_frame list_ends))

took₂ : model_took_last list₂ ≡ false
unfolding list₂ whole_frames whole_batches step on_given on_batch on_handle on_part hold settle apply keep put given encode body_bytes blob_bytes change_bytes run_bytes bytes_of decode le read_num read_bytes read_blob read_text read_count many read_body read_fields batch_fields ack_fields read_changes read_change set_incoming_in_flight_fields record_msg_fields record_bare_fields set_created_at_fields set_marks_fields read_app_records read_part read_stamp read_marks utf8 well_formed lead_length own_bits least fitting is_scalar is_surrogate is_printable_byte is_printable is_marks is_digit is_pair is_short is_stamp has_digits day_exists month_days is_leap takes_stamp
took₂ = refl

left_B : session_at (run L₀ s₀ calls₂).places 1 ≡ some new_session
left_B = (demand_3 L₀ 3 A₀ new_session k₀ 9 b₀ s₀ a_start calls₂ list₂).is_A_or_B ∙ ap (λ (x : Bool). some (cond x A₀ new_session)) took₂

-- and by computing: the standby's session, and the plain copy's
computed_so : session_at (run L₀ s₀ calls₁).places 1 ∷ session_at (run L₀ s₀ calls₂).places 1 ∷ [] ≡ some A₀ ∷ some new_session ∷ []
unfolding step on_given on_batch on_handle on_part hold settle apply keep put given encode body_bytes blob_bytes change_bytes run_bytes bytes_of decode le read_num read_bytes read_blob read_text read_count many read_body read_fields batch_fields ack_fields read_changes read_change set_incoming_in_flight_fields record_msg_fields record_bare_fields set_created_at_fields set_marks_fields read_app_records read_part read_stamp read_marks utf8 well_formed lead_length own_bits least fitting is_scalar is_surrogate is_printable_byte is_printable is_marks is_digit is_pair is_short is_stamp has_digits day_exists month_days is_leap takes_stamp
computed_so = refl

copies_so : (copy_run L₀ k₀ (copy_at new_session s₀) s₀ calls₁).session ∷ (copy_run L₀ k₀ (copy_at new_session s₀) s₀ calls₂).session ∷ [] ≡ A₀ ∷ new_session ∷ []
unfolding step on_given on_batch on_handle on_part hold settle apply keep put given encode body_bytes blob_bytes change_bytes run_bytes bytes_of decode le read_num read_bytes read_blob read_text read_count many read_body read_fields batch_fields ack_fields read_changes read_change set_incoming_in_flight_fields record_msg_fields record_bare_fields set_created_at_fields set_marks_fields read_app_records read_part read_stamp read_marks utf8 well_formed lead_length own_bits least fitting is_scalar is_surrogate is_printable_byte is_printable is_marks is_digit is_pair is_short is_stamp has_digits day_exists month_days is_leap takes_stamp
copies_so = refl

-- ---- a stamp of 30 bytes in version 2: C 1, M 1, and a hold area of just the length for it, C + 22 × M + 131, which this session fills

abbrev A₂ : Session
A₂ = record { stamp = long_text; next_out = 9; next_in = 4; in_flight = some 3; marks = replicate 64 66; messages = record { num = 2; text = 7 ∷ [] } ∷ [] }

abbrev L₂ : ℕ → Settings
L₂ room = record { C = 1; M = 1; S = 1; room = room; incarnation = 7; lag = 0 }

abbrev s₂ : Standby
s₂ =
    record {
      counters = record { epoch = 5; connections = 1; promoted = false; checked = false; version = 2 };
      places = record { key = key_of 65; stored = record { session = new_session; durable = false } } ∷ [];
      handles = some (9, record { place = 0; number = 7; held = []; bytes = 0 }) ∷ [];
      pending = [];
    }

long_start : ModelStart (L₂ 154) 3 A₂ new_session (record { key = key_of 65; earlier = 0 }) 9 (record { place = 0; number = 7; held = []; bytes = 0 }) s₂
unfolding whole_batches takes_stamp is_short is_stamp has_digits day_exists month_days is_leap is_pair is_digit is_marks is_printable is_printable_byte
long_start =
    record {
      C_limit = omega arith;
      M_limit = omega arith;
      A_held =
          record {
            stamp_ok = tt;
            out_low = omega arith;
            out_high = omega arith;
            inc_high = omega arith;
            flight_high = tt;
            marks_ok = tt;
            msgs_rise = (omega arith, omega arith, tt, tt);
            msgs_bytes = omega arith;
            msgs_count = omega arith;
          };
      unpromoted = refl;
      row_apart = refl;
      bound_so = refl;
      is_B = refl;
      its_key = refl;
      nothing_held = refl;
      suits_so = refl;
      area = omega arith;
      handle_u32 = omega arith;
      epoch_u64 = omega arith;
      sendable = omega arith;
    }

-- its two parts: the message is in the first, for its bytes don't pass 3 before it
abbrev halves : List Frame
halves =
    batch 9 5 8 whole (reset ∷ set_created_at long_text ∷ record_bare 1 ∷ record_msg 2 (7 ∷ []) ∷ []) []
    ∷ batch 9 5 9 last_whole (record_bare 8 ∷ set_incoming_in_flight 4 3 ∷ set_marks (replicate 64 66) ∷ []) []
    ∷ []

abbrev sent_in : ℕ → ℕ → List Answer
sent_in room version = answers (L₂ room) (record { counters = record { epoch = 5; connections = 1; promoted = false; checked = false; version = version }; places = s₂.places; handles = s₂.handles; pending = [] }) (map (λ (f : Frame). on_frame_held (encode f)) halves)

-- taken in version 2; 18 in an area one byte shorter; in version 1 the first part is 6, so the second is Diverged
halves_so : sent_in 154 2 ∷ sent_in 153 2 ∷ sent_in 154 1 ∷ []
    ≡ (reply (ack 9 8) ∷ reply (ack 9 9) ∷ []) ∷ (reply (ack 9 8) ∷ refused 18 ∷ []) ∷ (refused 6 ∷ reply (nack 9 diverged) ∷ []) ∷ []
unfolding whole_frames whole_batches step on_given on_batch on_handle on_part hold settle apply keep put given encode body_bytes blob_bytes change_bytes run_bytes bytes_of decode le read_num read_bytes read_blob read_text read_count many read_body read_fields batch_fields read_changes read_change set_incoming_in_flight_fields record_msg_fields record_bare_fields set_created_at_fields set_marks_fields read_app_records read_part read_stamp read_marks utf8 well_formed lead_length own_bits least fitting is_scalar is_surrogate is_printable_byte is_printable is_marks is_digit is_pair is_short is_stamp has_digits day_exists month_days is_leap takes_stamp
halves_so = refl

-- ---- what the rule on handles is for: of a row with two places of handle 2 a Bind of handle 1 frees the first, and brings the second to life. The
-- standby's next Commit on handle 2 is on another session, the plain copy's on the first one's still

abbrev twice : Standby
twice =
    record {
      counters = s₀.counters;
      places = record { key = key_of 65; stored = record { session = new_session; durable = true } } ∷ record { key = key_of 66; stored = record { session = new_session; durable = true } } ∷ [];
      handles = some (2, record { place = 0; number = 0; held = []; bytes = 0 }) ∷ some (2, record { place = 1; number = 4; held = []; bytes = 0 }) ∷ [];
      pending = [];
    }

abbrev calls₃ : List Call
calls₃ = on_frame_held (encode (bind 1 5 0 (key_of 65))) ∷ on_frame_held (encode (batch 2 5 5 commit (record_bare 7 ∷ []) [])) ∷ []

abbrev k₃ : OwnKey
k₃ = record { key = key_of 65; earlier = 0 }

second_lives : session_at (run L₀ twice calls₃).places 0 ∷ session_at (run L₀ twice calls₃).places 1 ∷ some (copy_run L₀ k₃ (copy_at new_session twice) twice calls₃).session ∷ []
    ≡ some new_session ∷ some (apply_all 4096 64 (record_bare 7 ∷ []) new_session) ∷ some (apply_all 4096 64 (record_bare 7 ∷ []) new_session) ∷ []
unfolding step on_given on_bind on_batch on_handle on_part hold settle apply keep put given encode body_bytes blob_bytes change_bytes key_bytes run_bytes bytes_of decode le read_num read_bytes read_blob read_text read_count many read_body read_fields bind_fields batch_fields read_changes read_change record_bare_fields read_app_records read_part read_key utf8 well_formed lead_length own_bits least fitting is_scalar is_surrogate is_printable_byte is_printable is_key
second_lives = refl

-- it is the row of no allowed state
not_apart : apart twice.handles ≡ false
not_apart = refl
