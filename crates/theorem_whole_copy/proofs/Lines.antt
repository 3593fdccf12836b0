-- What holds of a sending on each line: the theorems for every limit, used for the line's own; and a start on the branch line whose session takes at least two
-- batches. Assumes nothing.
use mathlib.Core.Path.{◌≡◌, refl, sym, ap, subst, ◌∙◌}
use mathlib.Core.Bool.{Bool, true, false, cond, ◌&&◌, false≢true}
use mathlib.Core.List.{List, [], ◌∷◌, ◌++◌}
use mathlib.Core.Option.{Option, none, some, map}
use Prim.Native.Nat.{ℕ, zero, suc, ◌+◌, ◌≤◌, ◌<◌}
use native.Mathlib.Omega.{arith}
use lib.Dec.{T, leb, ltb}
use lib.ListN.{length, replicate, length-replicate}
use borrow.Author.Tests.{lt-ltb, le-ltb}
use Rattle.model_text.specs.Printable.{is_printable_byte, is_printable, is_marks}
use Rattle.model_text.specs.Version.{is_version, latest}
use Rattle.model_frame.specs.Frame.{Change, reset}
use Rattle.model_session.specs.Session.{Session, Msg, Holdable, top, suits, is_bytes}
use Rattle.model_session.specs.Sender.{new_sender, cannot_send}
use Rattle.model_session.specs.Whole.{whole_batches, batches_from, stamp_part, send_msg, batch_if}
use Rattle.standby_segments.specs.Segments.{hold_areas}
use Rattle.standby_row.specs.declared.Bound.{Bound as BoundRecord}
use Rattle.standby_row.specs.Row.{apart_of, broken_of, zero_or_next}
use Rattle.store_areas.specs.declared.Shape.{Shape}
use Rattle.store_areas.specs.Areas.{place_at, places_of, Rules}
use Rattle.store_areas.proofs.Ruling.{rules_true}
use Rattle.store_areas.proofs.Lifting.{place_is, session_is}
use Rattle.standby_segments.proofs.Meaning.{none_held}
use Rattle.standby_handles.specs.Rows.{first_area}
use Rattle.model_standby.specs.Store.{Place}
use Rattle.model_standby.specs.State.{Bound}
use Rattle.model_standby.proofs.Places.{own_made}
use Rattle.standby_part.specs.State.{bound_of}
use Rattle.standby_state.specs.declared.Settings.{Settings}
use Rattle.standby_step.specs.Steps.{room_of}
use Rattle.standby_step.specs.Calls.{room_all, lengths_all}
use Rattle.std.specs.Prelude.{None, Result, Ok}
use Rattle.base_refusals.specs.declared.Refusal.{Refusal}
use Rattle.active.specs.declared.Line.{Line}
use Rattle.active.specs.declared.Sending.{Sending}
use Rattle.active.specs.Whole.{branch_limit, limit_of, stored_at, SendStart, ready, start_of, start_from, SendsWhole, SendCalls, SentWhole}
use Rattle.active.specs.Whole as whole
use Rattle.active.proofs.Giving.{whole_given}
use Rattle.theorem_whole_copy.specs.Demand.{Lent, Start}
use Rattle.theorem_whole_copy.specs.Lines.{LineCalls, nothing, too_short, frame, Asked, OnLine, HeadOffice, BranchLine, Cut}
use Rattle.theorem_whole_copy.proofs.Demand3.{demand_3, all_sent}

-- ---- calls stay on the line

module _ (shape : Shape) (w b : List ℕ) where
  record Stayed (s : Sending) (fs : List (List ℕ)) (t : Sending) : Type 0 where
    line : t.line ≡ s.line
    calls : SendCalls (limit_of s.line) shape w b s fs t

  stay : {s t : Sending} {fs : List (List ℕ)} → LineCalls shape w b s fs t → Stayed s fs t
  stay nothing = record { line = refl; calls = whole.SendCalls.nothing }
  stay (too_short p q) = let m = stay q in record { line = m.line; calls = whole.SendCalls.too_short p m.calls }
  stay {s} {t} (frame {s' = s'} {fs = fs} p q) =
      let m = stay q in
      record { line = m.line ∙ p.stays_on; calls = whole.SendCalls.frame p (subst (λ (l : Line). SendCalls (limit_of l) shape w b s' fs t) p.stays_on m.calls) }

-- ---- the corollary, of each line

module _ (limit version : ℕ) (a : Session) (i h e last : ℕ) (v : is_version version ≡ true) (u : suits version a.stamp ≡ true) where
  past : top < last + length (whole_batches limit a) → start_from limit version (some a) i h e last ≡ SendStart.refused 24
  unfolding start_from cannot_send
  past p = rw (v, u, lt-ltb top (last + length (whole_batches limit a)) p) refl

  fit : last + length (whole_batches limit a) ≤ top → start_from limit version (some a) i h e last ≡ ready i version (new_sender h e last)
  unfolding start_from cannot_send
  fit p = rw (v, u, le-ltb top (last + length (whole_batches limit a)) p) refl

module _ (line : Line) where
  abbrev limit : ℕ
  limit = limit_of line

  module _ (version : ℕ) (shape : Shape) (w b : List ℕ) (i h e last : ℕ) (a : Session) where
    answered : {r : Result Sending Refusal} → Asked line version shape w b i h e last a r → start_of r ≡ start_from limit version (some a) i h e last
    answered q = q.begins.start ∙ ap (λ (o : Option Session). start_from limit version o i h e last) q.stored

    own : (s t : Sending) (fs : List (List ℕ)) → Asked line version shape w b i h e last a (Ok s) → LineCalls shape w b s fs t → (t.line ≡ line) × SentWhole limit shape w b a h e last fs t
    own s t fs q calls =
        let m = stay shape w b calls in (
          m.line ∙ q.begins.begun_on,
          whole_given limit shape w b a h e last version i s t fs q.words_u64 q.bytes_u8 q.stored q.begins.start
              (subst (λ (l : Line). SendCalls (limit_of l) shape w b s fs t) q.begins.begun_on m.calls),
        )

  pub on_line : OnLine line (limit_of line)
  on_line =
      record {
        numbers_past = λ version shape w b i h e last a r q v u p. answered version shape w b i h e last a q ∙ past limit version a i h e last v u p;
        numbers_fit = λ version shape w b i h e last a r q v u p. answered version shape w b i h e last a q ∙ fit limit version a i h e last v u p;
        own_frames = λ version shape w b i h e last a s t fs q calls. own version shape w b i h e last a s t fs q calls;
        demand_3 = λ set A B k h b x start cs z d. demand_3 set limit A B k h b x start cs z d;
        ends_in_A = λ set A B k h b x start version shape w a i s t fs out out' q calls said z r.
            let o = own version shape w a i h x.counters.epoch.0 b.number A s t fs q calls in
            all_sent set limit A B k h b x start shape w a fs t o.1 (subst (λ (l : Line). SendsWhole (limit_of l) shape w a t out out' (Ok None)) o.0 said) r;
      }

-- THE THEOREM ON A HEAD OFFICE'S LINE, AND ON A BRANCH LINE
pub head_office : HeadOffice
head_office = on_line Line.HeadOffice

pub branch_line : BranchLine
branch_line = on_line Line.Branch

-- ---- a first message longer than the limit, and one behind it: at least two batches

module _ (limit : ℕ) (a : Session) where
  grown : (t : Bool) (n : ℕ) (now : List Change) (rest : List (List Change)) → n ≤ length rest → n ≤ length (batch_if t now rest)
  grown true n now rest h = omega arith
  grown false n now rest h = h

  one_more : (t : Bool) (n : ℕ) (now : List Change) (rest : List (List Change)) → length rest ≤ n → length (batch_if t now rest) ≤ suc n
  one_more true n now rest h = omega arith
  one_more false n now rest h = omega arith

  at_least_one : (now : List Change) (bytes next : ℕ) (ms : List Msg) → 1 ≤ length (batches_from limit a now bytes next ms)
  at_least_one now bytes next [] = omega arith
  at_least_one now bytes next (m ∷ ms) =
      grown (ltb limit bytes) 1 now (batches_from limit a (cond (ltb limit bytes) [] now ++ send_msg next m) (cond (ltb limit bytes) 0 bytes + length m.text) (suc m.num) ms)
      (at_least_one (cond (ltb limit bytes) [] now ++ send_msg next m) (cond (ltb limit bytes) 0 bytes + length m.text) (suc m.num) ms)

  few : (now : List Change) (bytes next : ℕ) (ms : List Msg) → length (batches_from limit a now bytes next ms) ≤ suc (length ms)
  few now bytes next [] = omega arith
  few now bytes next (m ∷ ms) =
      one_more (ltb limit bytes) (suc (length ms)) now (batches_from limit a (cond (ltb limit bytes) [] now ++ send_msg next m) (cond (ltb limit bytes) 0 bytes + length m.text) (suc m.num) ms)
      (few (cond (ltb limit bytes) [] now ++ send_msg next m) (cond (ltb limit bytes) 0 bytes + length m.text) (suc m.num) ms)

  full_before : (now : List Change) (bytes next : ℕ) (m : Msg) (ms : List Msg) → limit < bytes → 2 ≤ length (batches_from limit a now bytes next (m ∷ ms))
  full_before now bytes next m ms h = go (ltb limit bytes) (lt-ltb limit bytes h)
    where
      go : (t : Bool) → t ≡ true → 2 ≤ length (batch_if t now (batches_from limit a (cond t [] now ++ send_msg next m) (cond t 0 bytes + length m.text) (suc m.num) ms))
      go true e = omega (arith, at_least_one (cond true [] now ++ send_msg next m) (cond true 0 bytes + length m.text) (suc m.num) ms)
      go false e = absurd (false≢true e)

  two_from : (now : List Change) (next : ℕ) (m n : Msg) (ms : List Msg) → limit < length m.text → 2 ≤ length (batches_from limit a now 0 next (m ∷ n ∷ ms))
  two_from now next m n ms h = go (ltb limit 0)
    where
      go : (t : Bool) → 2 ≤ length (batch_if t now (batches_from limit a (cond t [] now ++ send_msg next m) (cond t 0 0 + length m.text) (suc m.num) (n ∷ ms)))
      go true =
          grown true 2 now (batches_from limit a (cond true [] now ++ send_msg next m) (cond true 0 0 + length m.text) (suc m.num) (n ∷ ms))
          (full_before (cond true [] now ++ send_msg next m) (cond true 0 0 + length m.text) (suc m.num) n ms (omega (arith, h)))
      go false = full_before (cond false [] now ++ send_msg next m) (cond false 0 0 + length m.text) (suc m.num) n ms (omega (arith, h))

  pub two_batches : (m n : Msg) (ms : List Msg) → a.messages ≡ m ∷ n ∷ ms → limit < length m.text → 2 ≤ length (whole_batches limit a)
  unfolding whole_batches
  two_batches m n ms e h = subst (λ (l : List Msg). 2 ≤ length (batches_from limit a (reset ∷ stamp_part a.stamp) 0 1 l)) (sym e) (two_from (reset ∷ stamp_part a.stamp) 1 m n ms h)

  pub few_batches : length (whole_batches limit a) ≤ suc (length a.messages)
  unfolding whole_batches
  few_batches = few (reset ∷ stamp_part a.stamp) 0 1 a.messages

-- ---- a start of such a session, whatever the limit below C's own

zeros_are_bytes : (n : ℕ) → T (is_bytes (replicate n 0))
zeros_are_bytes zero = tt
zeros_are_bytes (suc n) = zeros_are_bytes n

zeros_long : (n : ℕ) → length (replicate {A = ℕ} n 0) ≡ n
zeros_long n = length-replicate {A = ℕ} n 0

abbrev h₂ : BoundRecord
h₂ = record { used = 1; handle = 9; place = 0; commit_no = record { 0 = 7 }; held_len = 0; held_bytes = 0 }

row_kept : (room : ℕ) → (apart_of (h₂ ∷ []) && leb 1 (broken_of (h₂ ∷ []) 1 room)) ≡ true
row_kept room = ap (λ (t : Bool). leb 1 (zero_or_next t 0)) (le-ltb room 0 (omega arith))

room_one : (n : ℕ) → n ≤ room_of n 1
room_one n = omega arith

module _ (limit : ℕ) (under : limit < 33554432) where
  abbrev size : ℕ
  size = suc limit

  abbrev A₂ : Session
  A₂ = record { stamp = []; next_out = 3; next_in = 1; in_flight = none; marks = []; messages = record { num = 1; text = replicate size 0 } ∷ record { num = 2; text = [] } ∷ [] }

  A₂_held : Holdable size 2 A₂
  unfolding is_marks is_printable is_printable_byte
  A₂_held =
      record {
        stamp_ok = tt;
        out_low = omega arith;
        out_high = omega arith;
        inc_high = omega arith;
        flight_high = tt;
        marks_ok = tt;
        msgs_rise = (omega arith, omega arith, zeros_are_bytes size, (omega arith, omega arith, tt, tt));
        msgs_bytes = omega (arith, zeros_long size);
        msgs_count = omega arith;
      }

  abbrev s₂ : Settings
  s₂ = record { shape = record { places = 1; bytes = size; messages = 2 }; incarnation = record { 0 = 7 }; max_lag = 0; tells_lowest = 1 }

  abbrev x₂ : Lent
  x₂ =
      record {
        counters = record { epoch = record { 0 = 5 }; connections = 1; promoted = 0; checked = 0; version2 = 0 };
        row = h₂ ∷ [];
        words = 1 ∷ replicate 85 0;
        bytes = replicate (224 + size) 0;
        holds = hold_areas (replicate (166 + size) 0) [];
      }

  abbrev place₂ : Place
  place₂ = place_at s₂.shape x₂.words x₂.bytes 0

  abbrev b₂ : Bound
  b₂ = bound_of latest h₂ (first_area (lengths_all x₂.row x₂.holds) x₂.holds)

  -- no words are lent
  abbrev b₂_ends : List ℕ
  b₂_ends = (first_area (lengths_all x₂.row x₂.holds) x₂.holds).ends

  rules₂ : Rules s₂.shape x₂.words x₂.bytes
  rules₂ =
      record {
        room = record { bytes_limit = omega (arith, under); messages_limit = omega arith; words_long = omega arith; bytes_long = omega (arith, zeros_long (224 + size)) };
        used = omega arith;
        pending = omega arith;
      }

  start₂ : Start s₂ limit A₂ place₂.stored.session (record { key = place₂.key; earlier = 0 }) 9 b₂ x₂
  start₂ =
      record {
        allowed = (λ j. rules_true s₂.shape x₂.words x₂.bytes rules₂ j && row_kept (room_all x₂.row x₂.holds.bytes) j);
        A_held = A₂_held;
        unpromoted = refl;
        bound_so = refl;
        is_B = session_is s₂.shape x₂.words x₂.bytes 0 (omega arith);
        its_key =
            own_made (places_of s₂.shape x₂.words x₂.bytes) 0 (record { key = place₂.key; earlier = 0 })
            (ap (map (λ (p : Place). p.key)) (place_is s₂.shape x₂.words x₂.bytes 0 (omega arith))) refl;
        nothing_held = none_held latest b₂_ends;
        suits_so = refl;
        area = omega (arith, zeros_long (166 + size), room_one (length x₂.holds.bytes));
        handle_u32 = omega arith;
        epoch_u64 = omega arith;
        sendable = omega (arith, few_batches limit A₂);
      }

  pub cut : Cut limit
  cut =
      record {
        set = s₂;
        A = A₂;
        B = place₂.stored.session;
        its_key = record { key = place₂.key; earlier = 0 };
        handle = 9;
        bound = b₂;
        lent = x₂;
        start = start₂;
        at_least_two = two_batches limit A₂ (record { num = 1; text = replicate size 0 }) (record { num = 2; text = [] }) [] refl (omega (arith, zeros_long size));
      }

-- on the branch line: the theorem there is of sessions of more than one batch too
pub branch_cut : Cut branch_limit
branch_cut = cut branch_limit (omega arith)
