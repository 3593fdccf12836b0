-- Two actives at work on the code: areas of two places (C = 4, M = 2) and two handles, as made. Whatever the entry points leave and answer by their contracts: after
-- the higher active's Bind the lower one's Commit is in the store (the model's witness), and after its Hello the lower one's Commit changes nothing. Assumes nothing.
use mathlib.Core.Path.{◌≡◌, refl, sym, ap, ◌∙◌}
use mathlib.Core.Bool.{Bool, true, false, ◌&&◌}
use mathlib.Core.List.{List, [], ◌∷◌}
use mathlib.Core.Option.{some}
use native.Mathlib.Omega.{arith}
use Prim.Native.Nat.{ℕ}
use lib.ListN.{replicate}
use Rattle.model_text.specs.Version.{is_version}
use Rattle.model_text.specs.Utf8.{utf8, well_formed, lead_length, own_bits, least, fitting, is_scalar, is_surrogate}
use Rattle.model_frame.specs.Bytes.{le, bytes_of}
use Rattle.model_frame.specs.Frame.{record_msg, commit, Frame, hello, bind, batch}
use Rattle.model_frame.specs.Parse.{read_bytes, read_num, read_blob, read_text, read_count, many, run_bytes}
use Rattle.model_frame.specs.Reading.{record_msg_fields, read_change, read_changes, read_kinds, read_app_records, read_part, hello_fields, batch_fields, read_fields, read_body, decode}
use Rattle.model_frame.specs.Writing.{blob_bytes, change_bytes, body_bytes, encode}
use Rattle.model_session.specs.Session.{new_session, apply_all}
use Rattle.standby_segments.specs.Segments.{hold_areas}
use Rattle.standby_row.specs.Row.{free_record}
use Rattle.store_areas.specs.Areas.{places_of, Rules}
use Rattle.store_areas.proofs.Ruling.{rules_true}
use Rattle.standby_pending.specs.Pending.{pending_of}
use Rattle.model_standby.specs.Answer.{given}
use Rattle.model_standby.specs.Store.{session_at}
use Rattle.model_standby.specs.State.{Standby, Call, on_frame_held, on_frame, new_standby}
use Rattle.model_standby.specs.Standby.{on_hello, on_given, step}
use Rattle.model_standby.specs.Demand.{by_held, by_frame}
use Rattle.model_two_actives.specs.TwoActives.{Deposing, by_hello, Takes}
use Rattle.model_two_actives.proofs.Witness.{L₀, key_of, not_by_bind}
use Rattle.standby_state.specs.declared.Settings.{Settings}
use Rattle.standby_state.specs.declared.Answer.{Answer}
use Rattle.theorem_whole_copy.specs.Demand.{Lent, stands_for, settings, Allowed, Calls, Runs, no_calls}
use Rattle.theorem_whole_copy.proofs.Model.{one, runs}
use Rattle.theorem_two_actives.specs.TwoActives.{OnlyCommitsRan}
use Rattle.theorem_two_actives.proofs.TwoActives.{two_actives}

abbrev s₀ : Settings
s₀ = record { shape = record { places = 2; bytes = 4; messages = 2 }; incarnation = record { 0 = 7 }; max_lag = 0; tells_lowest = 1 }

abbrev x₀ : Lent
x₀ =
    record {
      counters = record { epoch = record { 0 = 0 }; connections = 0; promoted = 0; checked = 0; version2 = 0 };
      row = free_record ∷ free_record ∷ [];
      words = replicate 106 0;
      bytes = replicate 456 0;
      holds = hold_areas (replicate 340 0) [];
    }

rules₀ : Rules s₀.shape x₀.words x₀.bytes
rules₀ = record { room = record { bytes_limit = omega arith; messages_limit = omega arith; words_long = omega arith; bytes_long = omega arith }; used = omega arith; pending = omega arith }

allowed₀ : Allowed s₀ x₀
allowed₀ = ap (λ (t : Bool). t && true) (rules_true s₀.shape x₀.words x₀.bytes rules₀)

stands₀ : stands_for s₀ x₀ ≡ new_standby [] 2
unfolding pending_of places_of
stands₀ = refl

-- ---- not by Bind

abbrev low_commit : Frame
low_commit = batch 1 5 1 commit (record_msg 1 (7 ∷ []) ∷ []) []

abbrev both : List Call
both = on_frame_held (encode (hello 1 5 [] [])) ∷ on_frame_held (encode (bind 1 5 0 (key_of 65))) ∷ on_frame_held (encode (bind 2 9 0 (key_of 67))) ∷ on_frame_held (encode low_commit) ∷ []

pub commit_taken : {z : Lent} → Runs s₀ x₀ both z → session_at (places_of s₀.shape z.words z.bytes) 0 ≡ some (apply_all 4 2 (record_msg 1 (7 ∷ []) ∷ []) new_session)
commit_taken {z} rs = ap (λ (t : Standby). session_at t.places 0) (sym (runs s₀ 170 rs allowed₀ refl (new_standby [] 2) stands₀)) ∙ not_by_bind.applied

-- ---- deposed by a Hello of version 2, as by one of version 1

hello_taken : Takes 1 (on_frame (encode (hello 2 9 [] []))) (hello 2 9 [] [])
unfolding given encode body_bytes blob_bytes run_bytes bytes_of decode le read_num read_bytes read_blob read_text read_count many read_body read_fields hello_fields read_kinds utf8 well_formed lead_length own_bits least fitting is_scalar is_surrogate
hello_taken = record { bytes = encode (hello 2 9 [] []); hands = by_frame; reads = refl }

commit_read : (v : ℕ) → Takes v (on_frame_held (encode low_commit)) low_commit
unfolding given encode body_bytes blob_bytes change_bytes run_bytes bytes_of decode le read_num read_bytes read_blob read_count many read_body read_fields batch_fields read_changes read_change record_msg_fields read_app_records read_part
commit_read v = record { bytes = encode low_commit; hands = by_held; reads = refl }

deposing : Deposing (settings s₀ x₀) 9 (hello 2 9 [] [])
unfolding is_version
deposing = by_hello refl

still_unpromoted : (step L₀ (new_standby [] 2) (on_frame (encode (hello 2 9 [] [])))).state.counters.promoted ≡ false
unfolding step on_given on_hello given encode body_bytes blob_bytes run_bytes bytes_of decode le read_num read_bytes read_blob read_text read_count many read_body read_fields hello_fields read_kinds utf8 well_formed lead_length own_bits least fitting is_scalar is_surrogate is_version
still_unpromoted = refl

pub commit_stale : {y z : Lent} {a b : Answer} → Calls s₀ (on_frame (encode (hello 2 9 [] []))) x₀ y a → Calls s₀ (on_frame_held (encode low_commit)) y z b → OnlyCommitsRan s₀ y z
commit_stale {y} {z} {a} {b} p q =
    let o = one s₀ 170 allowed₀ refl p (new_standby [] 2) stands₀ in
    (two_actives s₀ x₀ allowed₀ refl).deposes (on_frame (encode (hello 2 9 [] []))) 9 (hello 2 9 [] []) y a hello_taken deposing p [] y no_calls
    (ap (λ (t : Standby). t.counters.promoted) o.state ∙ still_unpromoted) (on_frame_held (encode low_commit)) low_commit z b (commit_read _) tt q
