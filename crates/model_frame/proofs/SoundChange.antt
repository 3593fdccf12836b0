-- What reading a change accepts can be sent, and writing it gives the same bytes back. Assumes nothing.
use mathlib.Core.Path.{◌≡◌, refl}
use mathlib.Core.Bool.{Bool, true, ◌&&◌}
use mathlib.Core.List.{List, [], ◌∷◌, ◌++◌}
use Prim.Native.Nat.{ℕ}
use lib.Dec.{T}
use Rattle.model_frame.proofs.Texts.{ByteChange}
use Rattle.model_frame.proofs.Sendable.{Sendable}
use Rattle.model_text.specs.Utf8.{utf8}
use Rattle.model_text.specs.Printable.{is_marks}
use Rattle.model_text.specs.Stamp.{takes_stamp}
use Rattle.model_frame.specs.Bytes.{is_bytes}
use Rattle.model_frame.specs.Frame.{Change, reset, bad_timestamp, bad_marks}
use Rattle.model_frame.specs.Parse.{ok, pure, many, run_bytes, Each}
use Rattle.model_frame.specs.Reading.{read_stamp, read_marks, set_incoming_fields, set_incoming_in_flight_fields, set_in_flight_fields, record_msg_fields, record_bare_fields, set_created_at_fields, set_marks_fields, read_change}
use Rattle.model_frame.specs.Writing.{blob_bytes, change_bytes, all_fine, RangedChange}
use Rattle.model_frame.proofs.Le.{bytes_each, each_bytes}
use Rattle.model_frame.proofs.Canon.{Was, Canon, canon_done, canon_fail, canon_test, canon_row, canon_then, num_canon, byte_canon, blob_canon, text_canon, run_canon, Blob, Run}

pub both : {a b : Bool} → a ≡ true → b ≡ true → (a && b) ≡ true
both p q = rw (p, q)

-- what a change that was read is
abbrev pub TakenChange : ℕ → Change → Type 0
TakenChange version c = Sendable version c × ByteChange c

stamp_canon : (version : ℕ) → Canon [] (read_stamp version) blob_bytes (λ t. Blob t × ((utf8 t && takes_stamp version t) ≡ true))
unfolding read_stamp
stamp_canon version = canon_then text_canon (λ t h. canon_test (takes_stamp version t) t bad_timestamp refl (λ e. (h.0, both h.1 e)))

pub marks_canon : Canon [] read_marks blob_bytes (λ t. Blob t × ((utf8 t && is_marks t) ≡ true))
unfolding read_marks
marks_canon = canon_then text_canon (λ t h. canon_test (is_marks t) t bad_marks refl (λ e. (h.0, both h.1 e)))

module _ (version : ℕ) where
  set_incoming_canon : Canon (1 ∷ []) set_incoming_fields change_bytes (TakenChange version)
  unfolding set_incoming_fields change_bytes
  set_incoming_canon = canon_then (num_canon 8) (λ n h. canon_done refl ((h, refl), tt))

  set_incoming_in_flight_canon : Canon (2 ∷ []) set_incoming_in_flight_fields change_bytes (TakenChange version)
  unfolding set_incoming_in_flight_fields change_bytes
  set_incoming_in_flight_canon = canon_then (num_canon 8) (λ n h. canon_then (num_canon 8) (λ f k. canon_done refl (((h, k), refl), tt)))

  set_in_flight_canon : Canon (3 ∷ []) set_in_flight_fields change_bytes (TakenChange version)
  unfolding set_in_flight_fields change_bytes
  set_in_flight_canon = canon_then (num_canon 8) (λ n h. canon_done refl ((h, refl), tt))

  record_msg_canon : Canon (4 ∷ []) record_msg_fields change_bytes (TakenChange version)
  unfolding record_msg_fields change_bytes
  record_msg_canon = canon_then (num_canon 8) (λ n h. canon_then blob_canon (λ m k. canon_done refl (((h, k.0), refl), k.1)))

  record_bare_canon : Canon (5 ∷ []) record_bare_fields change_bytes (TakenChange version)
  unfolding record_bare_fields change_bytes
  record_bare_canon = canon_then (num_canon 8) (λ n h. canon_done refl ((h, refl), tt))

  reset_canon : Canon (6 ∷ []) (pure reset) change_bytes (TakenChange version)
  unfolding change_bytes
  reset_canon = canon_done refl ((tt, refl), tt)

  set_created_at_canon : Canon (7 ∷ []) (set_created_at_fields version) change_bytes (TakenChange version)
  unfolding set_created_at_fields change_bytes
  set_created_at_canon = canon_then (stamp_canon version) (λ t h. canon_done refl ((h.0.0, h.1), h.0.1))

  set_marks_canon : Canon (8 ∷ []) set_marks_fields change_bytes (TakenChange version)
  unfolding set_marks_fields change_bytes
  set_marks_canon = canon_then marks_canon (λ t h. canon_done refl ((h.0.0, h.1), h.0.1))

  pub change_canon : Canon [] (read_change version) change_bytes (TakenChange version)
  unfolding read_change
  change_canon =
      canon_then byte_canon
      (λ k h.
      canon_row 1 set_incoming_canon
      (canon_row 2 set_incoming_in_flight_canon
      (canon_row 3 set_in_flight_canon
      (canon_row 4 record_msg_canon
      (canon_row 5 record_bare_canon
      (canon_row 6 reset_canon
      (canon_row 7 set_created_at_canon
      (canon_row 8 set_marks_canon canon_fail))))))))

  pub taken_ranged : (cs : List Change) → Each (TakenChange version) cs → Each RangedChange cs
  taken_ranged [] h = tt
  taken_ranged (c ∷ cs) h = (h.0.0.0, taken_ranged cs h.1)

  pub taken_fine : (cs : List Change) → Each (TakenChange version) cs → all_fine version cs ≡ true
  taken_fine [] h = refl
  taken_fine (c ∷ cs) h = both h.0.0.1 (taken_fine cs h.1)

  pub taken_blob : (cs : List Change) → Each (TakenChange version) cs → Each ByteChange cs
  taken_blob [] h = tt
  taken_blob (c ∷ cs) h = (h.0.1, taken_blob cs h.1)

  -- the changes of a run
  pub taken_sendable : (cs : List Change) → Each (TakenChange version) cs → Each (Sendable version) cs
  taken_sendable [] h = tt
  taken_sendable (c ∷ cs) h = (h.0.0, taken_sendable cs h.1)

  -- one change, and a run of them, read from bytes
  pub change_sound : (s : List ℕ) {c : Change} {t : List ℕ} → T (is_bytes s) → read_change version s ≡ ok c t → (s ≡ change_bytes c ++ t) × TakenChange version c × T (is_bytes t)
  change_sound s {c} {t} h e =
      let w : Was change_bytes (TakenChange version) s (ok c t) = rw e at (change_canon.reads s (bytes_each s h)) in
      (w.0, w.1, each_bytes t w.2)

  pub changes_sound : (n : ℕ) (s : List ℕ) {cs : List Change} {t : List ℕ} → T (is_bytes s) → many n (read_change version) s ≡ ok cs t → (s ≡ run_bytes change_bytes cs ++ t) × Run (TakenChange version) n cs × T (is_bytes t)
  changes_sound n s {cs} {t} h e =
      let w : Was (run_bytes change_bytes) (Run (TakenChange version) n) s (ok cs t) = rw e at ((run_canon change_canon n).reads s (bytes_each s h)) in
      (w.0, w.1, each_bytes t w.2)
