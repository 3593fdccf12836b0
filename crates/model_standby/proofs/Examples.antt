-- The definitions at work, on bytes: the two lines of document 01, a session sent whole, every answer once, odd states. All is
-- computed.
-- Assumes nothing.
use mathlib.Core.Path.{◌≡◌, refl}
use Prim.Native.Nat.{ℕ, ◌-◌}
use mathlib.Core.List.{List, [], ◌∷◌, ◌++◌, map}
use mathlib.Core.Option.{Option, none, some}
use mathlib.Core.Bool.{Bool, true, false}
use lib.ListN.{replicate}
use Rattle.model_text.specs.Utf8.{utf8, well_formed, lead_length, own_bits, least, fitting, is_scalar, is_surrogate, is_tail}
use Rattle.model_text.specs.Printable.{is_printable_byte, is_printable, is_marks, is_key}
use Rattle.model_text.specs.Calendar.{is_leap, month_days}
use Rattle.model_text.specs.Version.{is_version}
use Rattle.model_text.specs.Stamp.{is_digit, is_pair, has_digits, day_exists, is_short, is_stamp, takes_stamp}
use Rattle.model_frame.specs.Bytes.{le, bytes_of}
use Rattle.model_frame.specs.Frame.{Key, Change, set_incoming, record_msg, record_bare, reset, set_created_at, set_marks, commit, whole, last_whole, stale_epoch, diverged, lag_too_great, restarted, Frame, hello, welcome, bind, batch, ack, nack, bound, checked}
use Rattle.model_frame.specs.Parse.{read_bytes, read_num, read_blob, read_text, read_count, many, run_bytes}
use Rattle.model_frame.specs.Reading.{read_stamp, read_marks, set_incoming_fields, record_msg_fields, record_bare_fields, set_created_at_fields, set_marks_fields, read_change, read_changes, read_kinds, read_app_record, read_app_records, read_part, read_key, hello_fields, bind_fields, batch_fields, ack_fields, checked_fields, read_fields, read_body, decode}
use Rattle.model_frame.specs.Writing.{blob_bytes, change_bytes, app_record_bytes, key_bytes, body_bytes, encode}
use Rattle.model_session.specs.Session.{new_session, keep, apply, top}
use Rattle.model_session.specs.Summary.{summary, last_out}
use Rattle.model_standby.specs.Answer.{given, Answer, reply, refused, done}
use Rattle.model_standby.specs.Row.{Row, put}
use Rattle.model_standby.specs.Store.{Place, with_b, taken_over}
use Rattle.model_standby.specs.State.{Settings, Bound, Standby, Call, on_frame_held, on_frame, flush, disconnected_from, promote, new_standby}
use Rattle.model_standby.specs.Handles.{apart}
use Rattle.model_standby.specs.Standby.{on_hello, on_bind, on_checked, settle, hold, on_part, on_handle, on_batch, on_given, step, run}

-- ---- the rule at work

abbrev at_place : ℕ → ℕ → ℕ → Option (ℕ × Bound)
at_place h p n = some (h, record { place = p; number = n; held = []; bytes = 0 })

-- the rule of a row: two of one handle, two of one session place, each with another between them; free places don't count
apart_so : map apart (
    (at_place 1 0 0 ∷ at_place 2 1 0 ∷ at_place 1 3 0 ∷ [])
    ∷ (at_place 1 0 0 ∷ at_place 2 1 0 ∷ at_place 3 0 0 ∷ [])
    ∷ (none ∷ at_place 1 0 0 ∷ none ∷ at_place 2 1 0 ∷ none ∷ at_place 3 2 0 ∷ [])
    ∷ (none ∷ none ∷ [])
    ∷ []
    ) ≡ false ∷ false ∷ true ∷ true ∷ []
apart_so = refl

-- ---- calls

abbrev held : Frame → Call
held f = on_frame_held (encode f)

abbrev taken : Frame → Call
taken f = on_frame (encode f)

abbrev pub answers : Settings → Standby → List Call → List Answer
answers L s [] = []
answers L s (c ∷ cs) = (step L s c).answer ∷ answers L (step L s c).state cs

-- the program `frames`: incarnation 7, lag 0, C 4,096, M 64, four sessions, four handles, hold areas of 5,626 bytes
abbrev pub L₀ : Settings
L₀ = record { C = 4096; M = 64; S = 4; room = 5626; incarnation = 7; lag = 0 }

-- the two lines of document 01, and an incomplete frame, one with a byte after it, an unknown kind
abbrev lines : List Call
lines =
    on_frame (0x14 ∷ 0 ∷ 0 ∷ 0 ∷ 1 ∷ 1 ∷ 0 ∷ 5 ∷ 0 ∷ 0 ∷ 0 ∷ 0 ∷ 0 ∷ 0 ∷ 0 ∷ 1 ∷ 0 ∷ 0 ∷ 0 ∷ 0x61 ∷ 0 ∷ 0 ∷ 0 ∷ 0 ∷ [])
    ∷ on_frame (0x1e ∷ 0 ∷ 0 ∷ 0 ∷ 4 ∷ 9 ∷ 0 ∷ 0 ∷ 0 ∷ 5 ∷ 0 ∷ 0 ∷ 0 ∷ 0 ∷ 0 ∷ 0 ∷ 0 ∷ 1 ∷ 0 ∷ 0 ∷ 0 ∷ 0 ∷ 0 ∷ 0 ∷ 0 ∷ 0 ∷ 0 ∷ 0 ∷ 0 ∷ 0 ∷ 0 ∷ 0 ∷ 0 ∷ 0 ∷ [])
    ∷ on_frame (1 ∷ 0 ∷ 0 ∷ 0 ∷ [])
    ∷ on_frame (13 ∷ 0 ∷ 0 ∷ 0 ∷ 5 ∷ 9 ∷ 0 ∷ 0 ∷ 0 ∷ 1 ∷ 0 ∷ 0 ∷ 0 ∷ 0 ∷ 0 ∷ 0 ∷ 0 ∷ 13 ∷ [])
    ∷ on_frame (1 ∷ 0 ∷ 0 ∷ 0 ∷ 9 ∷ [])
    ∷ []

lines_so : answers L₀ (new_standby [] 4) lines ≡ reply (welcome 5 7) ∷ refused 14 ∷ refused 26 ∷ refused 26 ∷ refused 3 ∷ []
unfolding step on_given on_hello on_batch on_handle given decode le read_num read_bytes read_blob read_text read_count many read_body read_fields hello_fields batch_fields ack_fields read_kinds read_changes read_app_records read_part utf8 well_formed lead_length own_bits least fitting is_scalar is_surrogate is_version
lines_so = refl

-- the answer to the first line
welcome_so : encode (welcome 5 7) ≡ 0x11 ∷ 0 ∷ 0 ∷ 0 ∷ 2 ∷ 5 ∷ 0 ∷ 0 ∷ 0 ∷ 0 ∷ 0 ∷ 0 ∷ 0 ∷ 7 ∷ 0 ∷ 0 ∷ 0 ∷ 0 ∷ 0 ∷ 0 ∷ 0 ∷ []
unfolding encode body_bytes bytes_of
welcome_so = refl

-- ---- every answer once: lag 1, C 4, M 2, two sessions, two handles, hold areas of 170 bytes

abbrev pub L₁ : Settings
L₁ = record { C = 4; M = 2; S = 2; room = 170; incarnation = 7; lag = 1 }

abbrev pub key_of : ℕ → Key
key_of n = record { begin = 70 ∷ []; sender = n ∷ []; target = 66 ∷ []; suffix = [] }

-- what is done, and its answer
abbrev script : List (Call × Answer)
script =
    (on_frame (1 ∷ 0 ∷ 0 ∷ 4 ∷ []), refused 1)
    ∷ (taken (hello 3 5 [] []), refused 11)
    ∷ (taken (hello 1 5 [] (1 ∷ [])), refused 12)
    ∷ (taken (hello 1 5 [] []), reply (welcome 5 7))
    ∷ (taken (hello 1 4 [] []), reply (welcome 5 7))
    ∷ (taken (bind 1 4 0 (key_of 65)), reply (nack 1 stale_epoch))
    ∷ (taken (bind 1 5 2 (key_of 65)), reply (nack 1 lag_too_great))
    -- a Bind of epoch 9 does not raise the epoch
    ∷ (taken (bind 1 9 1 (key_of 65)), reply (bound 1 (summary new_session 1)))
    ∷ (taken (bind 2 5 0 (key_of 66)), reply (bound 2 (summary new_session 0)))
    ∷ (taken (bind 3 5 0 (key_of 67)), refused 20)
    -- a Bind of another handle takes the session, and its first handle is unbound
    ∷ (taken (bind 3 5 0 (key_of 65)), reply (bound 3 (summary new_session 0)))
    ∷ (taken (batch 1 5 1 commit [] []), refused 14)
    ∷ (taken (bind 1 9 1 (key_of 65)), reply (bound 1 (summary new_session 1)))
    ∷ (taken (batch 1 9 1 commit [] (record { kind = 1; blob = [] } ∷ [])), refused 13)
    ∷ (taken (batch 1 4 1 commit [] []), reply (nack 1 stale_epoch))
    ∷ (taken (batch 3 5 1 commit [] []), refused 14)
    ∷ (taken (batch 1 5 2 commit [] []), reply (nack 1 diverged))
    ∷ (taken (batch 1 5 1 whole (set_marks [] ∷ []) []), refused 16)
    ∷ (taken (batch 1 5 1 whole (reset ∷ []) []), reply (ack 1 1))
    -- a stale Batch with a wrong number clears nothing
    ∷ (taken (batch 1 4 9 commit [] []), reply (nack 1 stale_epoch))
    ∷ (taken (batch 1 5 2 commit [] []), refused 15)
    ∷ (taken (batch 1 5 2 whole (record_msg 1 (replicate 157 0) ∷ []) []), refused 18)
    -- exactly the area
    ∷ (taken (batch 1 5 2 whole (record_msg 1 (replicate 156 0) ∷ []) []), reply (ack 1 2))
    ∷ (taken (batch 1 5 3 last_whole [] []), reply (ack 1 3))
    -- a message off next: Diverged, and what was held is gone
    ∷ (taken (batch 1 5 4 whole (reset ∷ []) []), reply (ack 1 4))
    ∷ (taken (batch 1 5 5 last_whole (record_msg 2 [] ∷ []) []), reply (nack 1 diverged))
    ∷ (taken (batch 1 5 5 commit (record_msg 2 (1 ∷ 2 ∷ 3 ∷ []) ∷ record_msg 3 (1 ∷ 2 ∷ []) ∷ record_msg 4 (1 ∷ 2 ∷ 3 ∷ 4 ∷ 5 ∷ []) ∷ []) []), reply (ack 1 5))
    ∷ (taken (batch 1 5 6 commit (record_bare top ∷ []) []), reply (nack 1 diverged))
    ∷ (taken (checked 1 4 7), reply (nack 1 stale_epoch))
    ∷ (taken (checked 1 5 8), reply (nack 1 restarted))
    ∷ (promote, refused 23)
    ∷ (taken (checked 1 6 7), reply (ack 1 0))
    ∷ (taken (batch 1 5 6 commit [] []), reply (nack 1 stale_epoch))
    ∷ (flush 0, refused 22)
    ∷ (flush 1, done)
    ∷ (disconnected_from 0, done)
    ∷ (taken (batch 1 6 6 commit [] []), reply (ack 1 6))
    ∷ (disconnected_from 1, done)
    ∷ (taken (batch 1 6 7 commit [] []), refused 14)
    ∷ (taken (ack 1 1), refused 19)
    ∷ (promote, done)
    ∷ (taken (hello 1 9 [] []), refused 10)
    ∷ (flush 1, refused 22)
    ∷ []

script_so : answers L₁ (new_standby [] 2) (map (λ (p : Call × Answer). p.0) script) ≡ map (λ (p : Call × Answer). p.1) script
unfolding step on_given on_hello on_bind on_checked on_batch on_handle on_part hold settle apply keep put given encode body_bytes blob_bytes change_bytes app_record_bytes key_bytes run_bytes bytes_of decode le read_num read_bytes read_blob read_text read_count many read_body read_fields hello_fields bind_fields batch_fields ack_fields checked_fields read_kinds read_changes read_change record_msg_fields record_bare_fields set_marks_fields read_app_records read_app_record read_part read_key read_marks utf8 well_formed lead_length own_bits least fitting is_scalar is_surrogate is_tail is_printable_byte is_printable is_marks is_key is_version
script_so = refl

-- Of the three messages the second is left (the first made place for it, the third is longer than C); promotion skipped one
-- number, set a B and marked the sessions.
script_places : (run L₁ (new_standby [] 2) (map (λ (p : Call × Answer). p.0) script)).places
    ≡ record { key = key_of 65; stored = record { session = record { stamp = []; next_out = 6; next_in = 1; in_flight = none; marks = 66 ∷ []; messages = record { num = 3; text = 1 ∷ 2 ∷ [] } ∷ [] }; durable = true } }
    ∷ record { key = key_of 66; stored = record { session = record { stamp = []; next_out = 2; next_in = 1; in_flight = none; marks = 66 ∷ []; messages = [] }; durable = true } }
    ∷ []
unfolding step on_given on_hello on_bind on_checked on_batch on_handle on_part hold settle apply keep put given encode body_bytes blob_bytes change_bytes app_record_bytes key_bytes run_bytes bytes_of decode le read_num read_bytes read_blob read_text read_count many read_body read_fields hello_fields bind_fields batch_fields ack_fields checked_fields read_kinds read_changes read_change record_msg_fields record_bare_fields set_marks_fields read_app_records read_app_record read_part read_key read_marks utf8 well_formed lead_length own_bits least fitting is_scalar is_surrogate is_tail is_printable_byte is_printable is_marks is_key is_version
script_places = refl

-- ---- the connection's version, one place for handles: a stamp with 12 digits is refused in version 1 and taken in version 2, also past a drop; a Hello of a
-- lower epoch, one with kinds and one of version 3 leave the version; over version 1 its session isn't bound (Nack Lag before 32, 32 before 21)

-- 20240229-23:59:59.123456789012
abbrev pub long_text : List ℕ
long_text =
    50 ∷ 48 ∷ 50 ∷ 52 ∷ 48 ∷ 50 ∷ 50 ∷ 57 ∷ 45 ∷ 50 ∷ 51 ∷ 58 ∷ 53 ∷ 57 ∷ 58 ∷ 53 ∷ 57 ∷ 46 ∷ 49 ∷ 50 ∷ 51 ∷ 52 ∷ 53 ∷ 54 ∷ 55 ∷ 56 ∷ 57 ∷ 48 ∷ 49 ∷ 50 ∷ []

-- a Bound of a session with this stamp and nothing else
abbrev bound_with : List ℕ → Frame
bound_with stamp = bound 1 (record { next_out = 1; next_in = 1; in_flight = none; stamp_text = stamp; marks_text = []; last_outgoing = 0 })

abbrev versions : List (Call × Answer)
versions =
    (taken (bind 1 0 0 (key_of 65)), reply (bound_with []))
    ∷ (taken (batch 1 0 1 commit (set_created_at long_text ∷ []) []), refused 6)
    ∷ (taken (hello 3 5 [] []), refused 11)
    ∷ (taken (hello 0 5 [] (1 ∷ [])), refused 11)
    ∷ (taken (hello 2 5 [] (1 ∷ [])), refused 12)
    ∷ (taken (batch 1 5 1 commit (set_created_at long_text ∷ []) []), refused 6)
    ∷ (taken (hello 2 5 [] []), reply (welcome 5 7))
    ∷ (taken (bind 1 5 0 (key_of 65)), reply (bound_with []))
    ∷ (taken (hello 1 4 [] []), reply (welcome 5 7))
    ∷ (taken (batch 1 5 1 commit (set_created_at long_text ∷ []) []), reply (ack 1 1))
    ∷ (disconnected_from 1, done)
    ∷ (taken (bind 1 5 0 (key_of 65)), reply (bound_with long_text))
    ∷ (taken (batch 1 5 1 commit (set_created_at long_text ∷ []) []), reply (ack 1 1))
    ∷ (taken (hello 1 5 [] []), reply (welcome 5 7))
    ∷ (taken (bind 1 5 0 (key_of 66)), reply (bound_with []))
    ∷ (taken (bind 2 5 1 (key_of 65)), reply (nack 2 lag_too_great))
    ∷ (taken (bind 2 5 0 (key_of 65)), refused 32)
    ∷ (taken (bind 2 5 0 (key_of 67)), refused 21)
    ∷ (taken (batch 1 5 1 commit (set_created_at long_text ∷ []) []), refused 6)
    ∷ []

versions_so : answers L₀ (new_standby [] 1) (map (λ (p : Call × Answer). p.0) versions) ≡ map (λ (p : Call × Answer). p.1) versions
unfolding step on_given on_hello on_bind on_checked on_batch on_handle on_part hold settle apply keep put given encode body_bytes blob_bytes change_bytes app_record_bytes key_bytes run_bytes bytes_of decode le read_num read_bytes read_blob read_text read_count many read_body read_fields hello_fields bind_fields batch_fields ack_fields checked_fields read_kinds read_changes read_change record_msg_fields record_bare_fields set_created_at_fields set_marks_fields read_app_records read_app_record read_part read_key read_stamp read_marks utf8 well_formed lead_length own_bits least fitting is_scalar is_surrogate is_tail is_printable_byte is_printable is_marks is_key is_version takes_stamp is_short is_stamp has_digits day_exists month_days is_leap is_digit is_pair summary last_out
versions_so = refl

-- each call's version, and that a refused Bind of a long session removes no handle: handle 1 has the session, handle 2 is refused
version_after : (run L₀ (new_standby [] 1) (map (λ (p : Call × Answer). p.0) versions)).counters.version ≡ 1
unfolding step on_given on_hello on_bind on_checked on_batch on_handle on_part hold settle apply keep put given encode body_bytes blob_bytes change_bytes app_record_bytes key_bytes run_bytes bytes_of decode le read_num read_bytes read_blob read_text read_count many read_body read_fields hello_fields bind_fields batch_fields ack_fields checked_fields read_kinds read_changes read_change record_msg_fields record_bare_fields set_created_at_fields set_marks_fields read_app_records read_app_record read_part read_key read_stamp read_marks utf8 well_formed lead_length own_bits least fitting is_scalar is_surrogate is_tail is_printable_byte is_printable is_marks is_key is_version takes_stamp is_short is_stamp has_digits day_exists month_days is_leap is_digit is_pair summary last_out
version_after = refl

abbrev one_is_bound : Standby
one_is_bound = run L₀ (new_standby [] 2) (taken (hello 2 5 [] []) ∷ taken (bind 1 5 0 (key_of 65)) ∷ taken (batch 1 5 1 commit (set_created_at long_text ∷ []) []) ∷ [])

-- the version set back by hand: an accepted Hello would free the handle
abbrev set_back : Standby → Standby
set_back s = record { counters = record { epoch = s.counters.epoch; connections = s.counters.connections; promoted = s.counters.promoted; checked = s.counters.checked; version = 1 }; places = s.places; handles = s.handles; pending = s.pending }

refused_bind_leaves : (step L₀ (set_back one_is_bound) (taken (bind 2 5 0 (key_of 65)))).answer ≡ refused 32
    × ((step L₀ (set_back one_is_bound) (taken (bind 2 5 0 (key_of 65)))).state.handles ≡ one_is_bound.handles)
unfolding step on_given on_hello on_bind on_checked on_batch on_handle on_part hold settle apply keep put given encode body_bytes blob_bytes change_bytes app_record_bytes key_bytes run_bytes bytes_of decode le read_num read_bytes read_blob read_text read_count many read_body read_fields hello_fields bind_fields batch_fields ack_fields checked_fields read_kinds read_changes read_change record_msg_fields record_bare_fields set_created_at_fields set_marks_fields read_app_records read_app_record read_part read_key read_stamp read_marks utf8 well_formed lead_length own_bits least fitting is_scalar is_surrogate is_tail is_printable_byte is_printable is_marks is_key is_version takes_stamp is_short is_stamp has_digits day_exists month_days is_leap is_digit is_pair summary last_out
refused_bind_leaves = (refl, refl)

-- ---- commits: pending until due

-- two new sessions, marked as durable or not, bound by handles 1 and 2 at these numbers
abbrev two : Bool → Bool → List (ℕ × ℕ) → ℕ → ℕ → Standby
two d₁ d₂ pending n₁ n₂ =
    record {
      counters = (new_standby [] 0).counters;
      places = record { key = key_of 65; stored = record { session = new_session; durable = d₁ } } ∷ record { key = key_of 66; stored = record { session = new_session; durable = d₂ } } ∷ [];
      handles = some (1, record { place = 0; number = n₁; held = []; bytes = 0 }) ∷ some (2, record { place = 1; number = n₂; held = []; bytes = 0 }) ∷ [];
      pending = pending;
    }

-- the state before, the calls, the state after
abbrev commits : List (Standby × List Call × Standby)
commits =
    -- A change takes the mark, also one that sets what is there; a Commit without changes keeps it. Both leave a commit pending.
    (two true true [] 0 0, held (batch 1 0 1 commit (set_incoming 1 ∷ []) []) ∷ held (batch 2 0 1 commit [] []) ∷ [], two false true ((1, 0) ∷ (2, 1) ∷ []) 1 1)
    -- they run before a Batch of a handle that has one, before a frame of another kind, though it is refused, and by flush
    ∷ (two false false ((1, 0) ∷ (2, 1) ∷ []) 1 1, held (batch 1 0 2 commit [] []) ∷ [], two true true ((1, 0) ∷ []) 2 1)
    ∷ (two false false ((1, 0) ∷ (2, 1) ∷ []) 1 1, held (ack 1 1) ∷ [], two true true [] 1 1)
    ∷ (two false false ((1, 0) ∷ (2, 1) ∷ []) 1 1, flush 0 ∷ [], two true true [] 1 1)
    -- not for bytes that aren't a frame, nor before another handle's Batch while fewer than 64 pend
    ∷ (two false false ((1, 0) ∷ []) 1 1, on_frame_held [] ∷ on_frame [] ∷ held (batch 2 0 2 commit [] []) ∷ [], two false false ((1, 0) ∷ (2, 1) ∷ []) 1 2)
    ∷ (two false false (replicate 63 (1, 0)) 1 1, held (batch 2 0 2 commit [] []) ∷ held (batch 3 0 1 commit [] []) ∷ [], two true true [] 1 2)
    -- on_frame runs them after a Nack too, and not after a refusal
    ∷ (two false false ((1, 0) ∷ []) 1 1, on_frame (encode (batch 2 0 1 commit [] [])) ∷ [], two true false [] 1 1)
    ∷ (two false false ((1, 0) ∷ []) 1 1, on_frame (encode (batch 3 0 1 commit [] [])) ∷ [], two false false ((1, 0) ∷ []) 1 1)
    ∷ []

commits_so : map (λ (p : Standby × List Call × Standby). run L₁ p.0 p.1) commits ≡ map (λ (p : Standby × List Call × Standby). p.2) commits
unfolding step on_given on_batch on_handle on_part settle apply put given encode body_bytes change_bytes run_bytes bytes_of decode le read_num read_bytes read_count many read_body read_fields batch_fields ack_fields read_changes read_change set_incoming_fields read_app_records read_part
commits_so = refl

-- ---- states that no operation makes

-- one session, and handle 1 at place n with these changes held and this byte sum; a commit is pending for a place that isn't there
abbrev odd : Bool → ℕ → List Change → ℕ → List (ℕ × ℕ) → Standby
odd durable n cs sum pending =
    record {
      counters = (new_standby [] 0).counters;
      places = record { key = key_of 65; stored = record { session = new_session; durable = durable } } ∷ [];
      handles = some (1, record { place = n; number = 1; held = cs; bytes = sum }) ∷ none ∷ [];
      pending = pending;
    }

-- 17: the byte sum stays raised, what is held stays held; the commit due has run, that of place 5 marked nothing
too_many : run L₁ (odd false 0 (reset ∷ []) 4294967296 ((1, 0) ∷ (2, 5) ∷ [])) (held (batch 1 0 2 whole (record_msg 1 (5 ∷ []) ∷ []) []) ∷ []) ≡ odd true 0 (reset ∷ []) 4294967297 []
unfolding step on_given on_batch on_handle on_part hold settle apply put given encode body_bytes blob_bytes change_bytes run_bytes bytes_of decode le read_num read_bytes read_blob read_count many read_body read_fields batch_fields read_changes read_change record_msg_fields read_app_records read_part
too_many = refl

-- one byte less passes; with nothing held the byte sum counts as 0
just_enough : answers L₁ (odd true 0 (reset ∷ []) 4294967295 []) (held (batch 1 0 2 whole (record_msg 1 (5 ∷ []) ∷ []) []) ∷ [])
    ++ answers L₁ (odd true 0 [] top []) (held (batch 1 0 2 whole (reset ∷ record_msg 1 (5 ∷ []) ∷ []) []) ∷ [])
    ≡ reply (ack 1 2) ∷ reply (ack 1 2) ∷ []
unfolding step on_given on_batch on_handle on_part hold settle apply put given encode body_bytes blob_bytes change_bytes run_bytes bytes_of decode le read_num read_bytes read_blob read_count many read_body read_fields batch_fields read_changes read_change record_msg_fields read_app_records read_part
just_enough = refl

-- of two places with one key a Bind takes the first
abbrev twice : List ℕ → Standby
twice read_marks =
    record {
      counters = (new_standby [] 0).counters;
      places =
          record { key = key_of 65; stored = record { session = record { stamp = []; next_out = 1; next_in = 1; in_flight = none; marks = read_marks; messages = [] }; durable = true } }
          ∷ record { key = key_of 65; stored = record { session = new_session; durable = true } }
          ∷ [];
      handles = none ∷ [];
      pending = [];
    }

first_counts : run L₁ (twice []) (taken (bind 1 0 0 (key_of 65)) ∷ taken (batch 1 0 1 commit (set_marks (65 ∷ []) ∷ []) []) ∷ disconnected_from 0 ∷ []) ≡ twice (65 ∷ [])
unfolding step on_given on_bind on_batch on_handle on_part hold settle apply put given encode body_bytes blob_bytes change_bytes key_bytes run_bytes bytes_of decode le read_num read_bytes read_blob read_text read_count many read_body read_fields bind_fields batch_fields read_changes read_change set_marks_fields read_app_records read_part read_key read_marks utf8 well_formed lead_length own_bits least fitting is_scalar is_surrogate is_printable_byte is_printable is_marks is_key
first_counts = refl

-- a Bind doesn't raise the epoch, nor does a Batch with application records; one that is then refused does
abbrev epoch_after : Frame → ℕ
epoch_after f = (step L₁ (two true true [] 0 0) (held f)).state.counters.epoch

epochs_so : epoch_after (bind 1 8 0 (key_of 65)) ∷ epoch_after (batch 3 8 1 commit [] (record { kind = 1; blob = [] } ∷ [])) ∷ epoch_after (batch 3 8 1 commit [] []) ∷ epoch_after (checked 1 8 7) ∷ [] ≡ 0 ∷ 0 ∷ 8 ∷ 8 ∷ []
unfolding step on_given on_bind on_batch on_handle on_checked given encode body_bytes blob_bytes app_record_bytes key_bytes run_bytes bytes_of decode le read_num read_bytes read_blob read_text read_count many read_body read_fields bind_fields batch_fields checked_fields read_changes read_app_records read_app_record read_part read_key utf8 well_formed lead_length own_bits least fitting is_scalar is_surrogate is_printable_byte is_printable is_key
epochs_so = refl

-- ---- what goes: a binding by a Bind on its handle or by an accepted Hello; at promotion numbers and marks

-- two sessions, the first marked as durable or not; handle 1 at a place and a number, with these changes held and this byte sum
abbrev on_one : Bool → List (ℕ × ℕ) → ℕ → ℕ → List Change → ℕ → Standby
on_one durable pending place n cs sum =
    record {
      counters = (new_standby [] 0).counters;
      places = (two durable true [] 0 0).places;
      handles = some (1, record { place = place; number = n; held = cs; bytes = sum }) ∷ none ∷ [];
      pending = pending;
    }

-- a Bind on a used handle starts it anew, on another session here; the pending commit has run
binds_anew : run L₁ (on_one false ((1, 0) ∷ []) 0 4 (reset ∷ []) 3) (held (bind 1 0 0 (key_of 66)) ∷ []) ≡ on_one true [] 1 0 [] 0
unfolding step on_given on_bind put given encode body_bytes blob_bytes key_bytes bytes_of decode le read_num read_bytes read_blob read_text read_body read_fields bind_fields read_key utf8 well_formed lead_length own_bits least fitting is_scalar is_surrogate is_printable_byte is_printable is_key
binds_anew = refl

-- ---- one handle for a session

-- a row before a frame at epoch 5, the row after it, the answer
abbrev rebinds : List (Row Bound × Frame × Row Bound × Answer)
rebinds =
    -- a full row: a new handle takes the place of the session's handle
    (at_place 1 0 3 ∷ at_place 2 1 4 ∷ [], bind 3 5 0 (key_of 66), at_place 1 0 3 ∷ at_place 3 1 0 ∷ [], reply (bound 3 (summary new_session 0)))
    -- a handle of another session keeps its own place; that session has none then
    ∷ (at_place 1 0 3 ∷ at_place 2 1 4 ∷ [], bind 2 5 0 (key_of 65), none ∷ at_place 2 0 0 ∷ [], reply (bound 2 (summary new_session 0)))
    -- its own session's handle starts anew where it was
    ∷ (at_place 1 0 3 ∷ at_place 2 1 4 ∷ [], bind 2 5 0 (key_of 66), at_place 1 0 3 ∷ at_place 2 1 0 ∷ [], reply (bound 2 (summary new_session 0)))
    ∷ (none ∷ at_place 2 1 4 ∷ [], bind 2 5 0 (key_of 66), none ∷ at_place 2 1 0 ∷ [], reply (bound 2 (summary new_session 0)))
    -- else the first free place, the freed one counted
    ∷ (none ∷ at_place 1 0 3 ∷ [], bind 3 5 0 (key_of 65), at_place 3 0 0 ∷ none ∷ [], reply (bound 3 (summary new_session 0)))
    ∷ (at_place 1 0 3 ∷ none ∷ [], bind 3 5 0 (key_of 65), at_place 3 0 0 ∷ none ∷ [], reply (bound 3 (summary new_session 0)))
    -- an active of a higher epoch takes it too
    ∷ (at_place 1 0 3 ∷ at_place 2 1 4 ∷ [], bind 3 9 0 (key_of 65), at_place 3 0 0 ∷ at_place 2 1 4 ∷ [], reply (bound 3 (summary new_session 0)))
    -- a refused Bind removes nothing: a lower epoch, the lag, 20, 21
    ∷ (at_place 1 0 3 ∷ at_place 2 1 4 ∷ [], bind 3 4 0 (key_of 65), at_place 1 0 3 ∷ at_place 2 1 4 ∷ [], reply (nack 3 stale_epoch))
    ∷ (at_place 1 0 3 ∷ at_place 2 1 4 ∷ [], bind 3 5 2 (key_of 65), at_place 1 0 3 ∷ at_place 2 1 4 ∷ [], reply (nack 3 lag_too_great))
    ∷ (at_place 1 0 3 ∷ at_place 2 1 4 ∷ [], bind 3 5 0 (key_of 67), at_place 1 0 3 ∷ at_place 2 1 4 ∷ [], refused 20)
    ∷ (at_place 1 0 3 ∷ [], bind 2 5 0 (key_of 66), at_place 1 0 3 ∷ [], refused 21)
    ∷ []

-- two sessions, and these handles, at epoch 5
abbrev with_row : Row Bound → Standby
with_row t =
    record { counters = record { epoch = 5; connections = 0; promoted = false; checked = false; version = 1 }; places = (two true true [] 0 0).places; handles = t; pending = [] }

rebinds_so : map {B = Row Bound × Answer} (λ (p : Row Bound × Frame × Row Bound × Answer). ((step L₁ (with_row p.0) (held p.1)).state.handles, (step L₁ (with_row p.0) (held p.1)).answer)) rebinds
    ≡ map {B = Row Bound × Answer} (λ (p : Row Bound × Frame × Row Bound × Answer). (p.2, p.3)) rebinds
unfolding step on_given on_bind put given encode body_bytes blob_bytes key_bytes bytes_of decode le read_num read_bytes read_blob read_text read_body read_fields bind_fields read_key utf8 well_formed lead_length own_bits least fitting is_scalar is_surrogate is_printable_byte is_printable is_key
rebinds_so = refl

-- what a removed handle held is not applied, nor when it is bound again
abbrev removed : List (Call × Answer)
removed =
    (taken (bind 1 5 0 (key_of 65)), reply (bound 1 (summary new_session 0)))
    ∷ (taken (batch 1 5 1 whole (reset ∷ record_msg 1 (7 ∷ []) ∷ []) []), reply (ack 1 1))
    ∷ (taken (bind 2 9 0 (key_of 65)), reply (bound 2 (summary new_session 0)))
    ∷ (taken (batch 1 5 2 last_whole [] []), refused 14)
    ∷ (taken (batch 2 5 1 commit (set_marks (65 ∷ []) ∷ []) []), reply (ack 2 1))
    ∷ (taken (bind 1 5 0 (key_of 66)), reply (bound 1 (summary new_session 0)))
    ∷ (taken (batch 1 5 1 last_whole (set_marks [] ∷ []) []), refused 16)
    ∷ (taken (batch 2 5 2 commit [] []), reply (ack 2 2))
    ∷ []

removed_so : answers L₁ (new_standby [] 2) (map (λ (p : Call × Answer). p.0) removed) ≡ map (λ (p : Call × Answer). p.1) removed
unfolding step on_given on_bind on_batch on_handle on_part hold settle apply keep put given encode body_bytes blob_bytes change_bytes key_bytes run_bytes bytes_of decode le read_num read_bytes read_blob read_text read_count many read_body read_fields bind_fields batch_fields read_changes read_change record_msg_fields set_marks_fields read_app_records read_part read_key read_marks utf8 well_formed lead_length own_bits least fitting is_scalar is_surrogate is_printable_byte is_printable is_marks is_key
removed_so = refl

removed_sessions : map (λ (x : Place). x.stored.session) (run L₁ (new_standby [] 2) (map (λ (p : Call × Answer). p.0) removed)).places
    ≡ record { stamp = []; next_out = 1; next_in = 1; in_flight = none; marks = 65 ∷ []; messages = [] } ∷ new_session ∷ []
unfolding step on_given on_bind on_batch on_handle on_part hold settle apply keep put given encode body_bytes blob_bytes change_bytes key_bytes run_bytes bytes_of decode le read_num read_bytes read_blob read_text read_count many read_body read_fields bind_fields batch_fields read_changes read_change record_msg_fields set_marks_fields read_app_records read_part read_key read_marks utf8 well_formed lead_length own_bits least fitting is_scalar is_surrogate is_printable_byte is_printable is_marks is_key
removed_sessions = refl

-- two sessions that are marked, no handle bound, no commit pending, at this epoch and count of connections
abbrev none_bound : ℕ → ℕ → Standby
none_bound epoch connections =
    record {
      counters = record { epoch = epoch; connections = connections; promoted = false; checked = false; version = 1 };
      places = (two true true [] 0 0).places;
      handles = none ∷ none ∷ [];
      pending = [];
    }

-- an accepted Hello, of the standby's epoch too, drops the bindings and counts a connection; a lower one does neither
hello_drops :
    run L₁ (two false true ((1, 0) ∷ []) 3 4) (held (hello 1 5 [] []) ∷ [])
    ∷ run L₁ (two false true ((1, 0) ∷ []) 3 4) (held (hello 1 0 [] []) ∷ [])
    ∷ run L₁ (none_bound 5 1) (held (hello 1 4 [] []) ∷ [])
    ∷ []
    ≡ none_bound 5 1 ∷ none_bound 0 1 ∷ none_bound 5 1 ∷ []
unfolding step on_given on_hello given encode body_bytes blob_bytes run_bytes bytes_of decode le read_num read_bytes read_blob read_text read_count many read_body read_fields hello_fields read_kinds utf8 well_formed lead_length own_bits least fitting is_scalar is_surrogate is_version
hello_drops = refl

-- a lower Hello keeps what is bound: handle 1 takes its next Commit
hello_keeps : answers L₁ (two true true [] 3 4) (held (batch 1 5 4 commit [] []) ∷ held (hello 1 4 [] []) ∷ held (batch 1 5 5 commit [] []) ∷ held (hello 1 5 [] []) ∷ held (batch 1 5 6 commit [] []) ∷ [])
    ≡ reply (ack 1 4) ∷ reply (welcome 5 7) ∷ reply (ack 1 5) ∷ reply (welcome 5 7) ∷ refused 14 ∷ []
unfolding step on_given on_hello on_batch on_handle on_part settle apply put given encode body_bytes blob_bytes change_bytes run_bytes bytes_of decode le read_num read_bytes read_blob read_text read_count many read_body read_fields hello_fields batch_fields read_kinds read_changes read_app_records read_part utf8 well_formed lead_length own_bits least fitting is_scalar is_surrogate is_version
hello_keeps = refl

-- marks get a final B: none, one byte, already B, 63 bytes, 64 bytes (the last replaced), 64 that end in B
marks_so : map with_b ([] ∷ (65 ∷ []) ∷ (66 ∷ []) ∷ replicate 63 65 ∷ replicate 64 65 ∷ (replicate 63 65 ++ (66 ∷ [])) ∷ [])
    ≡ (66 ∷ []) ∷ (65 ∷ 66 ∷ []) ∷ (66 ∷ []) ∷ (replicate 63 65 ++ (66 ∷ [])) ∷ (replicate 63 65 ++ (66 ∷ [])) ∷ (replicate 63 65 ++ (66 ∷ [])) ∷ []
marks_so = refl

-- next outgoing at promotion: the same with lag 0, else next + lag, and 2^64 - 1 at most
abbrev next_after : ℕ → ℕ → ℕ
next_after lag next = (taken_over lag (record { session = record { stamp = []; next_out = next; next_in = 1; in_flight = none; marks = []; messages = [] }; durable = false })).session.next_out

cap_so : next_after 0 top ∷ next_after 5 7 ∷ next_after 4 (top - 5) ∷ next_after 5 (top - 5) ∷ next_after 6 (top - 5) ∷ next_after top 1 ∷ [] ≡ top ∷ 12 ∷ (top - 1) ∷ top ∷ top ∷ top ∷ []
cap_so = refl
