-- The frame that is written is that of the session at the place. Assumes nothing.
use mathlib.Core.Path.{◌≡◌, refl, sym, ap, ◌∙◌}
use mathlib.Core.Bool.{Bool, true, false}
use mathlib.Core.List.{List, [], ◌∷◌}
use Prim.Native.Nat.{ℕ, ◌+◌, ◌≤◌, ◌<◌}
use native.Mathlib.Omega.{arith}
use lib.ListN.{length, drop, length-drop}
use Rattle.model_frame.specs.Bytes.{write}
use Rattle.model_frame.specs.Frame.{Change, reset, Part, Frame, batch}
use Rattle.model_frame.specs.Writing.{encode}
use Rattle.model_session.specs.Session.{Session, Msg}
use Rattle.model_session.specs.Sender.{Cut, sent_part, cut_from}
use Rattle.model_session.specs.Summary.{numbered_from}
use Rattle.model_session.specs.Whole.{stamp_part, whole_batches}
use Rattle.store_log.specs.Log.{log_of}
use Rattle.store_place.specs.Place.{next_out_of, stamp_of, session_of}
use Rattle.store_log.specs.declared.log.Log.{Log}
use Rattle.store_place.specs.declared.place.Place.{Place}
use Rattle.active_messages.specs.Cut.{batch_count}
use Rattle.active_messages.proofs.Counting.{count_is}
use Rattle.active_messages.proofs.Cutting.{numbered_all}
use Rattle.active_messages.proofs.Numbers.{ascends}
use Rattle.active_header.specs.declared.header.Header.{Header}
use Rattle.active_batch.specs.declared.Plan.{Plan}
use Rattle.base_refusals.specs.declared.Refusal.{Refusal}
use Rattle.std.specs.Bool.{then_some}
use Rattle.std.specs.Prelude.{Option, Ok, Err, not}
use Rattle.active_header.specs.Ends.{Heads}
use Rattle.active_batch.specs.Batch.{session_with, planned_changes, Planned, part_is, frame_from, resume_from, number_or_none, WroteBatch}
use Rattle.active_batch.proofs.Planning.{cut_planned}
use Rattle.active_batch.proofs.Framing.{frame_length}

part_is_lem : (n : ℕ) (last : Bool) → sent_part (resume_from n last) ≡ part_is last
part_is_lem n true = refl
part_is_lem n false = refl

goes_on_is : (last : Bool) (n : ℕ) → number_or_none (then_some (not last) n) ≡ resume_from n last
goes_on_is true n = refl
goes_on_is false n = refl

-- the place's log has these words and bytes, this room and this next number
module _ (C : ℕ) (place : Place) (log : Log) (lb : length place.bytes.now ≡ 224 + C) (ew : log.words.now ≡ drop 14 place.words.now) (eb : log.bytes.now ≡ drop 224 place.bytes.now) (em : log.max ≡ place.max)
    (en : log.next ≡ next_out_of place.words.now) where
  abbrev pub session : Session
  session = session_of C place.max place.words.now place.bytes.now

  abbrev messages : List Msg
  messages = log_of (length log.bytes.now) log.max log.next log.words.now log.bytes.now

  ring_length : length log.bytes.now ≡ C
  ring_length = ap length eb ∙ length-drop 224 place.bytes.now ∙ omega arith

  module _ (limit : ℕ) (hd : Header) (hs : Heads place.words.now place.bytes.now hd) where
    pub session_is : session ≡ session_with hd messages
    unfolding session_of
    session_is =
        λ i. record {
          stamp = sym hs.stamp_is i;
          next_out = sym hs.outgoing i;
          next_in = sym hs.incoming i;
          in_flight = sym hs.flight i;
          marks = sym hs.marks_is i;
          messages = log_of (sym ring_length i) (sym em i) (sym en i) (sym ew i) (sym eb i);
        }

    module _ (h e n from : ℕ) (p : Plan) (q : Planned limit hd log from p) where
      abbrev changes : List Change
      changes = planned_changes limit hd log from p

      cut_at : cut_from limit session from ≡ record { changes = changes; goes_on = resume_from p.resume_from p.last }
      cut_at = ap (λ (a : Session). cut_from limit a from) session_is ∙ cut_planned limit hd log from p q

      pub frame_is : frame_from limit session h e n from ≡ batch h e n (part_is p.last) changes []
      unfolding frame_from
      frame_is = ap (λ (k : Cut). batch h e n (sent_part k.goes_on) k.changes []) cut_at ∙ ap (λ (x : Part). batch h e n x changes []) (part_is_lem p.resume_from p.last)

      long : length (encode (frame_from limit session h e n from)) ≡ 34 + p.extent.size
      long = ap (λ (f : Frame). length (encode f)) frame_is ∙ frame_length h e n (part_is p.last) changes q.spans

      pub sent : (out out' : List ℕ) (o : Option ℕ) → 34 + p.extent.size ≤ length out → o ≡ then_some (not p.last) p.resume_from → out' ≡ write out 0 (encode (batch h e n (part_is p.last) changes []))
          → WroteBatch limit session h e n from out out' (Ok (record { len = 34 + p.extent.size; resume_from = o }))
      sent out out' o k g v = (sym long, k, v ∙ ap (λ (f : Frame). write out 0 (encode f)) (sym frame_is), ap (λ (c : Cut). c.goes_on) cut_at ∙ sym (ap number_or_none g ∙ goes_on_is p.last p.resume_from))

      pub too_short : (out : List ℕ) → length out < 34 + p.extent.size → WroteBatch limit session h e n from out out (Err Refusal.NoRoom)
      too_short out k = (refl, omega (arith, long), refl)

  -- ---- how many batches there are

  pub counted : (limit r : ℕ) → r ≡ batch_count limit 0 (numbered_from 1 messages) → r ≡ length (whole_batches limit session)
  unfolding session_of whole_batches
  counted limit r e =
      let kept : List Msg = log_of C place.max (next_out_of place.words.now) (drop 14 place.words.now) (drop 224 place.bytes.now) in
      e
      ∙ ap (λ (ms : List Msg). batch_count limit 0 (numbered_from 1 ms)) (λ i. log_of (ring_length i) (em i) (en i) (ew i) (eb i))
      ∙ ap (batch_count limit 0) (numbered_all 1 1 kept (omega arith) (ascends C place.max (next_out_of place.words.now) (drop 14 place.words.now) (drop 224 place.bytes.now)))
      ∙ sym (count_is limit session (reset ∷ stamp_part (stamp_of place.words.now place.bytes.now)) 0 1 kept)
