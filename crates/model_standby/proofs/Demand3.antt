-- Demand 3, whole.
-- Assumes nothing.
use mathlib.Core.Path.{◌≡◌, refl, sym, ap, subst, ◌∙◌}
use Prim.Native.Nat.{ℕ, suc, ◌+◌, ◌≤◌}
use mathlib.Core.List.{List, [], ◌∷◌, ◌++◌, map, append-nil}
use mathlib.Core.Option.{some}
use mathlib.Core.Bool.{Bool, true, false, cond, ◌&&◌, ◌||◌}
use lib.ListN.{length}
use lib.Dec.{T, ltb}
use Rattle.model_frame.specs.Frame.{Change, reset, Frame}
use Rattle.model_frame.specs.Parse.{is_empty}
use Rattle.model_frame.specs.Writing.{encode}
use Rattle.model_session.specs.Session.{Session, Msg, top}
use Rattle.model_session.specs.Whole.{batch_if, send_msg, stamp_part, batches_from, whole_batches, all_changes, frames_of, whole_frames, closing}
use Rattle.model_session.proofs.Basics.{T→true, some_inj}
use Rattle.model_session.proofs.Sending.{joined_whole}
use Rattle.model_session.proofs.Writing.{whole_writable}
use Rattle.model_standby.specs.Answer.{accepted}
use Rattle.model_standby.specs.Store.{session_at}
use Rattle.model_standby.specs.State.{Settings, Bound, Standby, Call, on_frame_held}
use Rattle.model_standby.specs.Standby.{starts_with_reset, step, run}
use Rattle.model_standby.specs.PlainCopy.{OwnKey, copy_at, copy_run}
use Rattle.model_standby.specs.Demand.{ModelStart, not_promotion, no_promotions, by_held, by_frame, FirstList, list_ends, ours_next, aside_next, flush_next, drop_next, model_took_last, ModelAllTaken, ModelClaim}
use Rattle.model_standby.proofs.Copying.{tracks_run, copy_start}
use Rattle.model_standby.proofs.Taking.{starts_append, hold_run}

-- ---- the first batch begins with a Reset

record FirstBatch (l : List (List Change)) : Type 0 where
  first : List Change
  rest : List (List Change)
  split : l ≡ first ∷ rest
  begins : starts_with_reset first ≡ true

module _ (limit : ℕ) (a : Session) where
  batches_begin : (ms : List Msg) (now : List Change) (bytes next : ℕ) → starts_with_reset now ≡ true → FirstBatch (batches_from limit a now bytes next ms)
  batches_begin [] now bytes next b = record { first = now ++ closing a next; rest = []; split = refl; begins = starts_append now (closing a next) b }
  batches_begin (m ∷ ms) now bytes next b = go (ltb limit bytes) (batches_begin ms)
    where
      go : (f : Bool) → ((now₁ : List Change) (bytes₁ next₁ : ℕ) → starts_with_reset now₁ ≡ true → FirstBatch (batches_from limit a now₁ bytes₁ next₁ ms))
          → FirstBatch (batch_if f now (batches_from limit a (cond f [] now ++ send_msg next m) (cond f 0 bytes + length m.text) (suc m.num) ms))
      go true ih = record { first = now; rest = _; split = refl; begins = b }
      go false ih = ih (now ++ send_msg next m) (bytes + length m.text) (suc m.num) (starts_append now (send_msg next m) b)

  whole_begins : FirstBatch (whole_batches limit a)
  unfolding whole_batches
  whole_begins = batches_begin a.messages (reset ∷ stamp_part a.stamp) 0 1 refl

-- ---- the calls of the first list are frames, flushes and drops

first_plain : {L : Settings} {e : ℕ} {left : List Frame} {s : Standby} {cs : List Call} → FirstList L e left s cs → T (no_promotions cs)
first_plain list_ends = tt
first_plain (ours_next by_held rest) = first_plain rest
first_plain (ours_next by_frame rest) = first_plain rest
first_plain (aside_next by_held p rest) = first_plain rest
first_plain (aside_next by_frame p rest) = first_plain rest
first_plain (flush_next n rest) = first_plain rest
first_plain (drop_next n rest) = first_plain rest

plain_append : (x y : List Call) → T (no_promotions x) → T (no_promotions y) → T (no_promotions (x ++ y))
plain_append [] y p q = q
plain_append (c ∷ x) y p q = go (not_promotion c) p (λ t. plain_append x y t q)
  where
    go : (b : Bool) → T (b && no_promotions x) → (T (no_promotions x) → T (no_promotions (x ++ y))) → T (b && no_promotions (x ++ y))
    go true t ih = ih t
    go false t ih = t

-- ---- the theorem

module _ (L : Settings) (limit : ℕ) (A B : Session) (k : OwnKey) (h : ℕ) (b : Bound) (s : Standby) (st : ModelStart L limit A B k h b s) where
  -- A's frames from here on
  abbrev pub frames : List Frame
  frames = whole_frames limit h s.counters.epoch b.number A

  first_part : (cs : List Call) (d : FirstList L s.counters.epoch frames s cs) → ModelAllTaken d × (session_at (run L s cs).places b.place ≡ some (cond (model_took_last d) A B))
  unfolding whole_frames
  first_part cs d =
      hold_run L A B b.place h s.counters.epoch s.counters.version st.A_held st.C_limit st.area d b.number [] w.first w.rest
      (ap (frames_of h s.counters.epoch b.number) w.split)
      (whole_writable s.counters.version limit L.C L.M h s.counters.epoch b.number A st.A_held st.suits_so st.C_limit st.M_limit st.handle_u32 st.epoch_u64 st.sendable)
      (record {
        all = sym (ap all_changes w.split) ∙ joined_whole limit A;
        begins = w.begins;
        numbers = subst (λ (l : List (List Change)). b.number + length l ≤ top) w.split st.sendable;
      })
      (record {
        rests = record { epoch = refl; promoted = st.unpromoted; version = refl; session = st.is_B };
        sum = b.bytes;
        handle = st.bound_so ∙ (λ i. some (record { place = b.place; number = b.number; held = st.nothing_held i; bytes = b.bytes }));
        counted = refl;
      })
    where
      w : FirstBatch (whole_batches limit A)
      w = whole_begins limit A

  pub demand_3 : (cs : List Call) (d : FirstList L s.counters.epoch frames s cs) → ModelClaim L limit A B k h b s cs d
  demand_3 cs d =
      record {
        all_taken = (first_part cs d).0;
        is_A_or_B = (first_part cs d).1;
        is_the_copy = λ more p. copied (cs ++ more) (plain_append cs more (first_plain d) p);
        copy_is_A_or_B = some_inj (sym (copied cs (first_plain d)) ∙ (first_part cs d).1);
      }
    where
      copied : (xs : List Call) → T (no_promotions xs) → session_at (run L s xs).places b.place ≡ some (copy_run L k (copy_at B s) s xs).session
      copied xs p = (tracks_run L k b.place s (copy_at B s) xs p st.row_apart (copy_start k b.place s B st.its_key st.is_B)).same_session

-- ---- it is no empty claim: the prefixes alone

module _ (L : Settings) (e : ℕ) where
  abbrev pub handed : List Frame → List Call
  handed fs = map (λ (f : Frame). on_frame_held (encode f)) fs

  abbrev pub a_prefix : (s : Standby) (fs left : List Frame) → FirstList L e (fs ++ left) s (handed fs)
  a_prefix s [] left = list_ends
  a_prefix s (f ∷ fs) left = ours_next by_held (a_prefix (step L s (on_frame_held (encode f))).state fs left)

  -- with frames left the last is not taken
  took_prefix : (s : Standby) (fs : List Frame) (g : Frame) (left : List Frame) → model_took_last (a_prefix s fs (g ∷ left)) ≡ false
  took_prefix s [] g left = refl
  took_prefix s (f ∷ fs) g left = go fs (took_prefix (step L s (on_frame_held (encode f))).state fs g left)
    where
      go : (fs : List Frame) → model_took_last (a_prefix (step L s (on_frame_held (encode f))).state fs (g ∷ left)) ≡ false
          → (is_empty (fs ++ (g ∷ left)) && accepted (step L s (on_frame_held (encode f))).answer || model_took_last (a_prefix (step L s (on_frame_held (encode f))).state fs (g ∷ left))) ≡ false
      go [] ih = ih
      go (x ∷ fs) ih = ih

  -- all of them, each accepted: the last is taken
  took_all : (s : Standby) (f : Frame) (fs : List Frame) → ModelAllTaken (a_prefix s (f ∷ fs) []) → model_took_last (a_prefix s (f ∷ fs) []) ≡ true
  took_all s f [] t = ap (λ (b : Bool). b || false) (T→true (accepted (step L s (on_frame_held (encode f))).answer) t.0)
  took_all s f (g ∷ fs) t = took_all (step L s (on_frame_held (encode f))).state g fs t.1

module _ (L : Settings) (limit : ℕ) (A B : Session) (k : OwnKey) (h : ℕ) (b : Bound) (s : Standby) (st : ModelStart L limit A B k h b s) where
  abbrev calls : List Frame → List Call
  calls fs = handed L s.counters.epoch fs

  -- a send cut short leaves B
  pub cut_short : (fs : List Frame) (g : Frame) (left : List Frame) → fs ++ (g ∷ left) ≡ whole_frames limit h s.counters.epoch b.number A → session_at (run L s (calls fs)).places b.place ≡ some B
  cut_short fs g left p =
      subst Says (sym p) (λ d. (demand_3 L limit A B k h b s st (calls fs) d).is_A_or_B) (a_prefix L s.counters.epoch s fs (g ∷ left))
      ∙ ap (λ (x : Bool). some (cond x A B)) (took_prefix L s.counters.epoch s fs g left)
    where
      Says : List Frame → Type 0
      Says w = (d : FirstList L s.counters.epoch w s (calls fs)) → session_at (run L s (calls fs)).places b.place ≡ some (cond (model_took_last d) A B)

  -- all of A's frames make it A
  pub sent_whole : (f : Frame) (fs : List Frame) → f ∷ fs ≡ whole_frames limit h s.counters.epoch b.number A → session_at (run L s (calls (f ∷ fs))).places b.place ≡ some A
  sent_whole f fs p =
      let q = subst Says (sym p ∙ sym (append-nil (f ∷ fs))) (λ d. ((demand_3 L limit A B k h b s st (calls (f ∷ fs)) d).all_taken, (demand_3 L limit A B k h b s st (calls (f ∷ fs)) d).is_A_or_B)) (a_prefix L s.counters.epoch s (f ∷ fs) []) in
      q.1 ∙ ap (λ (x : Bool). some (cond x A B)) (took_all L s.counters.epoch s f fs q.0)
    where
      Says : List Frame → Type 0
      Says w = (d : FirstList L s.counters.epoch w s (calls (f ∷ fs))) → ModelAllTaken d × (session_at (run L s (calls (f ∷ fs))).places b.place ≡ some (cond (model_took_last d) A B))

  pub all_sent : session_at (run L s (calls (whole_frames limit h s.counters.epoch b.number A))).places b.place ≡ some A
  unfolding whole_frames
  all_sent = go w.rest (ap (frames_of h s.counters.epoch b.number) w.split)
    where
      w : FirstBatch (whole_batches limit A)
      w = whole_begins limit A

      sent : List Frame → Session → Type 0
      sent fs X = session_at (run L s (calls fs)).places b.place ≡ some X

      go : (rest : List (List Change)) → frames_of h s.counters.epoch b.number (whole_batches limit A) ≡ frames_of h s.counters.epoch b.number (w.first ∷ rest)
          → sent (frames_of h s.counters.epoch b.number (whole_batches limit A)) A
      go [] p = subst (λ (fs : List Frame). sent fs A) (sym p) (sent_whole _ _ (sym p))
      go (c ∷ rest) p = subst (λ (fs : List Frame). sent fs A) (sym p) (sent_whole _ _ (sym p))
