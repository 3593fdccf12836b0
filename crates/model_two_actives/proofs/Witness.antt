-- The witness for Bind, computed.
-- Assumes nothing.
use mathlib.Core.Path.{refl}
use mathlib.Core.List.{[], ◌∷◌, map}
use Prim.Native.Nat.{ℕ}
use Rattle.model_text.specs.Utf8.{utf8, well_formed, lead_length, own_bits, least, fitting, is_scalar, is_surrogate, is_tail}
use Rattle.model_text.specs.Printable.{is_printable_byte, is_printable, is_key}
use Rattle.model_text.specs.Version.{is_version}
use Rattle.model_frame.specs.Bytes.{le, bytes_of}
use Rattle.model_frame.specs.Frame.{Key, record_msg, commit, Frame, hello, bind, batch}
use Rattle.model_frame.specs.Parse.{read_bytes, read_num, read_blob, read_text, read_count, many, run_bytes}
use Rattle.model_frame.specs.Reading.{record_msg_fields, read_change, read_changes, read_kinds, read_app_records, read_part, read_key, hello_fields, bind_fields, batch_fields, read_fields, read_body, decode}
use Rattle.model_frame.specs.Writing.{blob_bytes, change_bytes, key_bytes, body_bytes, encode}
use Rattle.model_session.specs.Session.{keep, apply}
use Rattle.model_standby.specs.Answer.{given}
use Rattle.model_standby.specs.Row.{put}
use Rattle.model_standby.specs.State.{Settings, on_frame_held, new_standby}
use Rattle.model_standby.specs.Standby.{on_hello, on_bind, settle, on_part, on_handle, on_batch, on_given, step, run}
use Rattle.model_two_actives.specs.TwoActives.{NotByBind}

-- C 4, M 2, two sessions, hold areas of 170 bytes, incarnation 7, lag 0
abbrev pub L₀ : Settings
L₀ = record { C = 4; M = 2; S = 2; room = 170; incarnation = 7; lag = 0 }

abbrev pub key_of : ℕ → Key
key_of n = record { begin = 70 ∷ []; sender = n ∷ []; target = 66 ∷ []; suffix = [] }

pub not_by_bind : NotByBind L₀ (key_of 65) (key_of 67)
    (run L₀ (new_standby [] 2) (map (λ (f : Frame). on_frame_held (encode f)) (hello 1 5 [] [] ∷ bind 1 5 0 (key_of 65) ∷ [])))
    (on_frame_held (encode (bind 2 9 0 (key_of 67)))) (on_frame_held (encode (batch 1 5 1 commit (record_msg 1 (7 ∷ []) ∷ []) [])))
unfolding step on_given on_hello on_bind on_batch on_handle on_part settle apply keep put given encode body_bytes blob_bytes change_bytes key_bytes run_bytes bytes_of decode le read_num read_bytes read_blob read_text read_count many read_body read_fields hello_fields bind_fields batch_fields read_kinds read_changes read_change record_msg_fields read_app_records read_part read_key utf8 well_formed lead_length own_bits least fitting is_scalar is_surrogate is_tail is_printable_byte is_printable is_key is_version
not_by_bind = record { before = refl; calls = (refl, refl); accepted = refl; acknowledged = refl; applied = refl }
