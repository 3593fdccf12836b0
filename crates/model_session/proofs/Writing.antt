-- The frames that send a session whole can be written, in a version that takes its stamp.
-- Assumes nothing.
use mathlib.Core.Path.{◌≡◌, refl, sym, subst}
use Prim.Native.Nat.{ℕ, suc, ◌+◌, ◌^◌, ◌≤◌, ◌<◌}
use native.Mathlib.Omega.{arith}
use mathlib.Core.List.{List, [], ◌∷◌}
use mathlib.Core.Option.{Option, none, some}
use mathlib.Core.Bool.{true}
use lib.ListN.{length}
use lib.Dec.{T, ltb, leb→le}
use Rattle.model_frame.proofs.Sendable.{Sendable}
use Rattle.model_text.specs.Printable.{is_marks}
use Rattle.model_text.specs.Stamp.{is_stamp, longest_short}
use Rattle.model_text.specs.Version.{first, latest}
use Rattle.model_text.proofs.Laws.{marks_is, takes_is, latest_takes, first_takes}
use Rattle.model_frame.specs.Frame.{Change, set_marks, reset, Part, batch, whole, last_whole}
use Rattle.model_frame.specs.Parse.{Each}
use Rattle.model_frame.specs.Reading.{max_body}
use Rattle.model_frame.proofs.Sizes.{body_size_lem}
use Rattle.model_frame.proofs.Runs.{sizes_append, count_sizes}
use Rattle.model_frame.specs.Writing.{all_fine, fine, RangedChange, Writable}
use Rattle.model_frame.specs.Sizes.{sizes}
use Rattle.model_session.specs.Session.{suits, Session, Msg, Holdable, Rising, is_stamp_or_none, small_flight, stored_bytes, top}
use Rattle.model_session.specs.Whole.{all_changes, stamp_part, skip_to, send_msg, incoming_part, whole_batches, frames_of, whole_frames}
use Rattle.model_session.proofs.Basics.{T→true, and_true, cond_cases, each_append, each_left, each_right, each_map}
use Rattle.model_session.proofs.Sending.{sends, next_after, whole_changes, joined_whole, whole_size, hold_most}

-- ---- each change of a whole sending can be written

module _ (version : ℕ) where
  pub all_fine_lem : (cs : List Change) → Each (Sendable version) cs → all_fine version cs ≡ true
  all_fine_lem [] p = refl
  all_fine_lem (c ∷ cs) p = and_true p.0.1 (all_fine_lem cs p.1)

  all_ranged : (cs : List Change) → Each (Sendable version) cs → Each RangedChange cs
  all_ranged cs p = each_map (Sendable version) RangedChange (λ c q. q.0) cs p

  -- the version takes the stamp, if there is one
  abbrev pub Suits : List ℕ → Type 0
  Suits st = suits version st ≡ true

  send_skip : (next n : ℕ) → n ≤ top → Each (Sendable version) (skip_to next n)
  send_skip next n h = cond_cases (Each (Sendable version)) (ltb next n) (λ _. ((omega arith, refl), tt)) (λ _. tt)

  send_sends : (next N : ℕ) (ms : List Msg) → N ≤ top → stored_bytes ms < 2 ^ 32 → Rising next N ms → Each (Sendable version) (sends next ms)
  send_sends next N [] h k r = tt
  send_sends next N (m ∷ ms) h k r =
      each_append (Sendable version) (send_msg next m) (sends (suc m.num) ms)
      (each_append (Sendable version) (skip_to next m.num) _ (send_skip next m.num (omega (arith, r.1))) (((omega (arith, r.1), omega arith), refl), tt))
      (send_sends (suc m.num) N ms h (omega arith) r.3)

  send_stamp : (st : List ℕ) → Suits st → Each (Sendable version) (reset ∷ stamp_part st)
  send_stamp [] t = ((tt, refl), tt)
  send_stamp (x ∷ xs) t =
      let s = takes_is version (x ∷ xs) t in
      ((tt, refl), ((omega (arith, s.most), and_true s.coded t), tt))

  send_incoming : (n : ℕ) (f : Option ℕ) → n ≤ top → T (small_flight f) → Sendable version (incoming_part n f)
  send_incoming n none h t = (omega arith, refl)
  send_incoming n (some f) h t = ((omega arith, omega (arith, leb→le f top t)), refl)

  send_marks : (m : List ℕ) → T (is_marks m) → Sendable version (set_marks m)
  send_marks m t =
      let e = T→true (is_marks m) t in
      let s = marks_is m e in
      (omega (arith, s.most), and_true s.coded e)

  send_whole : (C M : ℕ) (a : Session) → Holdable C M a → Suits a.stamp → C < 2 ^ 32 → Each (Sendable version) (whole_changes a)
  send_whole C M a h suits small =
      each_append (Sendable version) (reset ∷ stamp_part a.stamp) _ (send_stamp a.stamp suits)
      (each_append (Sendable version) (sends 1 a.messages) _ (send_sends 1 a.next_out a.messages h.out_high (omega (arith, h.msgs_bytes)) h.msgs_rise)
      (each_append (Sendable version) (skip_to (next_after 1 a.messages) a.next_out) _ (send_skip (next_after 1 a.messages) a.next_out h.out_high)
      (send_incoming a.next_in a.in_flight h.inc_high h.flight_high, (send_marks a.marks h.marks_ok, tt))))

  -- ---- the frames

  one_writable : (h e n : ℕ) (p : Part) (cs : List Change) → h < 2 ^ 32 → e ≤ top → n ≤ top → Each (Sendable version) cs → 30 + sizes cs ≤ max_body → Writable version (batch h e n p cs [])
  unfolding fine
  one_writable h e n p cs hh he hn o m =
      record {
        ranged = (hh, omega arith, omega arith, omega (arith, count_sizes cs), all_ranged cs o, omega arith, tt);
        texts = all_fine_lem cs o;
        short = omega (arith, body_size_lem (batch h e n p cs []));
      }

  frames_writable : (h e last : ℕ) (bs : List (List Change)) → h < 2 ^ 32 → e ≤ top → last + length bs ≤ top → Each (Sendable version) (all_changes bs) → 30 + sizes (all_changes bs) ≤ max_body
      → Each (Writable version) (frames_of h e last bs)
  frames_writable h e last [] hh he hn o m = tt
  frames_writable h e last (b ∷ []) hh he hn o m =
      (one_writable h e (suc last) last_whole b hh he (omega arith) (each_left (Sendable version) b [] o) (omega (arith, sizes_append b [])), tt)
  frames_writable h e last (b ∷ c ∷ bs) hh he hn o m = (
    one_writable h e (suc last) whole b hh he (omega arith) (each_left (Sendable version) b (all_changes (c ∷ bs)) o) (omega (arith, sizes_append b (all_changes (c ∷ bs)))),
    frames_writable h e (suc last) (c ∷ bs) hh he (omega arith) (each_right (Sendable version) b (all_changes (c ∷ bs)) o) (omega (arith, sizes_append b (all_changes (c ∷ bs)))),
  )

  -- sending never meets 8 or 1: every frame can be written, its body is at most 67,108,864 bytes long
  pub whole_writable : (limit C M h e last : ℕ) (a : Session) → Holdable C M a → Suits a.stamp → C ≤ 33554432 → M ≤ 65536 → h < 2 ^ 32 → e ≤ top → last + length (whole_batches limit a) ≤ top
      → Each (Writable version) (whole_frames limit h e last a)
  unfolding whole_frames
  whole_writable limit C M h e last a ok suits hc hm hh he hn =
      frames_writable h e last (whole_batches limit a) hh he hn (subst (Each (Sendable version)) (sym (joined_whole limit a)) (send_whole C M a ok suits (omega arith)))
      (omega (arith, whole_size limit C M a ok, hold_most C M a.stamp))

-- the latest version takes every stamp that the store keeps, the first those that aren't long
pub suits_latest : (st : List ℕ) → T (is_stamp_or_none st) → Suits latest st
suits_latest [] t = refl
suits_latest (x ∷ xs) t = latest_takes (x ∷ xs) (T→true (is_stamp (x ∷ xs)) t)

pub suits_first : (st : List ℕ) → T (is_stamp_or_none st) → length st ≤ longest_short → Suits first st
suits_first [] t h = refl
suits_first (x ∷ xs) t h = first_takes (x ∷ xs) (T→true (is_stamp (x ∷ xs)) t) h
