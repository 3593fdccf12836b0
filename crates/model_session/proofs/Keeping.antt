-- A change that the reader lets pass, and whose outgoing number fits, leaves a session that the store can hold.
-- Assumes nothing.
use mathlib.Core.Path.{◌≡◌, sym, subst}
use Prim.Native.Nat.{ℕ, suc, ◌≤◌, ◌<◌}
use native.Mathlib.Omega.{arith}
use native.Mathlib.Nat.{le_trans, le_refl}
use mathlib.Core.List.{List, [], ◌∷◌, ◌++◌}
use mathlib.Core.Bool.{true, ◌&&◌}
use lib.ListN.{length, length-append}
use lib.Dec.{T, ltb, leb, eqb, leb→le, ltb→lt, eqb→eq}
use Rattle.model_session.proofs.Storable.{Storable}
use Rattle.model_text.specs.Printable.{is_printable, is_marks}
use Rattle.model_text.specs.Stamp.{is_stamp}
use Rattle.model_frame.specs.Frame.{Change, set_incoming, set_incoming_in_flight, set_in_flight, record_msg, record_bare, reset, set_created_at, set_marks}
use Rattle.model_frame.specs.Parse.{Each}
use Rattle.model_session.specs.Session.{Session, Msg, new_session, stored_bytes, has_space, evict, keep, apply, apply_all, fits, Rising, is_bytes, Holdable, is_stamp_or_none, top}
use Rattle.model_session.proofs.Basics.{T→true, true→T, and_l, and_r, cond_cases, leb_true}
use Rattle.model_session.proofs.Sending.{total_append}
use Rattle.model_session.proofs.Longest.{evict_space}

rising_lower : (a b N : ℕ) (ms : List Msg) → a ≤ b → Rising b N ms → Rising a N ms
rising_lower a b N [] h r = tt
rising_lower a b N (m ∷ ms) h r = (le_trans h r.0, r.1, r.2, r.3)

pub rising_up : (a N N₁ : ℕ) (ms : List Msg) → N ≤ N₁ → Rising a N ms → Rising a N₁ ms
rising_up a N N₁ [] h r = tt
rising_up a N N₁ (m ∷ ms) h r = (r.0, le_trans r.1 h, r.2, rising_up (suc m.num) N N₁ ms h r.3)

rising_snoc : (a : ℕ) (ms : List Msg) (m : Msg) → a ≤ m.num → T (is_bytes m.text) → Rising a m.num ms → Rising a (suc m.num) (ms ++ (m ∷ []))
rising_snoc a [] m h w r = (h, le_refl (suc m.num), w, tt)
rising_snoc a (x ∷ ms) m h w r = (r.0, omega (arith, r.1), r.2, rising_snoc (suc x.num) ms m r.1 w r.3)

module _ (C M : ℕ) where
  evict_rises : (a N n : ℕ) (ms : List Msg) → Rising a N ms → Rising a N (evict C M n ms)
  evict_rises a N n [] r = r
  evict_rises a N n (m ∷ ms) r =
      cond_cases (Rising a N) (has_space C M n (m ∷ ms)) (λ _. r)
      (λ _. rising_lower a (suc m.num) N (evict C M n ms) (omega (arith, r.0)) (evict_rises (suc m.num) N n ms r.3))

  record Kept (N : ℕ) (l : List Msg) : Type 0 where
    rise : Rising 1 N l
    fit : stored_bytes l ≤ C
    count : length l ≤ M

  keep_kept : (m : Msg) (ms : List Msg) → 1 ≤ m.num → T (is_bytes m.text) → Kept m.num ms → Kept (suc m.num) (keep C M m ms)
  unfolding keep
  keep_kept m ms h w k =
      cond_cases (Kept (suc m.num)) (leb (length m.text) C && ltb 0 M)
      (λ t. let r = evict_space C M (length m.text) ms (leb→le (length m.text) C (and_l (leb (length m.text) C) (ltb 0 M) t)) (ltb→lt 0 M (and_r (leb (length m.text) C) (ltb 0 M) t)) in
      record {
        rise = rising_snoc 1 (evict C M (length m.text) ms) m h w (evict_rises 1 m.num (length m.text) ms k.rise);
        fit = omega (arith, total_append (evict C M (length m.text) ms) (m ∷ []), r.0);
        count = omega (arith, length-append (evict C M (length m.text) ms) (m ∷ []), r.1);
      })
      (λ _. record { rise = rising_up 1 m.num (suc m.num) ms (omega arith) k.rise; fit = k.fit; count = k.count })

  -- a new session is one that the store can hold
  pub new_holdable : Holdable C M new_session
  unfolding is_marks is_printable
  new_holdable =
      record { stamp_ok = tt; out_low = omega arith; out_high = omega arith; inc_high = omega arith; flight_high = tt; marks_ok = tt; msgs_rise = tt; msgs_bytes = omega arith; msgs_count = omega arith }

  -- a change keeps the session within what the store can hold, and the rest still fits
  apply_keeps : (c : Change) (cs : List Change) (s : Session) → Holdable C M s → Storable c → fits s.next_out (c ∷ cs) ≡ true
      → Holdable C M (apply C M c s) × (fits (apply C M c s).next_out cs ≡ true)
  unfolding apply
  apply_keeps (set_incoming n) cs s h o f = (record { stamp_ok = h.stamp_ok; out_low = h.out_low; out_high = h.out_high; inc_high = o; flight_high = tt; marks_ok = h.marks_ok; msgs_rise = h.msgs_rise; msgs_bytes = h.msgs_bytes; msgs_count = h.msgs_count }, f)
  apply_keeps (set_incoming_in_flight n g) cs s h o f = (record { stamp_ok = h.stamp_ok; out_low = h.out_low; out_high = h.out_high; inc_high = o.0; flight_high = true→T (leb g top) (leb_true o.1); marks_ok = h.marks_ok; msgs_rise = h.msgs_rise; msgs_bytes = h.msgs_bytes; msgs_count = h.msgs_count }, f)
  apply_keeps (set_in_flight g) cs s h o f = (record { stamp_ok = h.stamp_ok; out_low = h.out_low; out_high = h.out_high; inc_high = h.inc_high; flight_high = true→T (leb g top) (leb_true o); marks_ok = h.marks_ok; msgs_rise = h.msgs_rise; msgs_bytes = h.msgs_bytes; msgs_count = h.msgs_count }, f)
  apply_keeps (record_msg q w) cs s h o f =
      let t : T (eqb q s.next_out && ltb q top && fits (suc q) cs) = true→T (eqb q s.next_out && ltb q top && fits (suc q) cs) f in
      let t₁ : T (eqb q s.next_out && ltb q top) = and_l (eqb q s.next_out && ltb q top) (fits (suc q) cs) t in
      let e : q ≡ s.next_out = eqb→eq q s.next_out (and_l (eqb q s.next_out) (ltb q top) t₁) in
      let lt : q < top = ltb→lt q top (and_r (eqb q s.next_out) (ltb q top) t₁) in
      let k : Kept (suc q) (keep C M (record { num = q; text = w }) s.messages) =
      keep_kept (record { num = q; text = w }) s.messages (omega (arith, h.out_low)) o
      (record { rise = subst (λ (x : ℕ). Rising 1 x s.messages) (sym e) h.msgs_rise; fit = h.msgs_bytes; count = h.msgs_count }) in (
        record { stamp_ok = h.stamp_ok; out_low = omega arith; out_high = lt; inc_high = h.inc_high; flight_high = h.flight_high; marks_ok = h.marks_ok; msgs_rise = k.rise; msgs_bytes = k.fit; msgs_count = k.count },
        T→true (fits (suc q) cs) (and_r (eqb q s.next_out && ltb q top) (fits (suc q) cs) t),
      )
  apply_keeps (record_bare q) cs s h o f =
      let t : T (leb s.next_out q && ltb q top && fits (suc q) cs) = true→T (leb s.next_out q && ltb q top && fits (suc q) cs) f in
      let t₁ : T (leb s.next_out q && ltb q top) = and_l (leb s.next_out q && ltb q top) (fits (suc q) cs) t in
      let le : s.next_out ≤ q = leb→le s.next_out q (and_l (leb s.next_out q) (ltb q top) t₁) in
      let lt : q < top = ltb→lt q top (and_r (leb s.next_out q) (ltb q top) t₁) in (
        record { stamp_ok = h.stamp_ok; out_low = omega arith; out_high = lt; inc_high = h.inc_high; flight_high = h.flight_high; marks_ok = h.marks_ok; msgs_rise = rising_up 1 s.next_out (suc q) s.messages (omega arith) h.msgs_rise; msgs_bytes = h.msgs_bytes; msgs_count = h.msgs_count },
        T→true (fits (suc q) cs) (and_r (leb s.next_out q && ltb q top) (fits (suc q) cs) t),
      )
  apply_keeps reset cs s h o f = (new_holdable, f)
  apply_keeps (set_created_at x) cs s h o f = (record { stamp_ok = stamp_or x o; out_low = h.out_low; out_high = h.out_high; inc_high = h.inc_high; flight_high = h.flight_high; marks_ok = h.marks_ok; msgs_rise = h.msgs_rise; msgs_bytes = h.msgs_bytes; msgs_count = h.msgs_count }, f)
    where
      stamp_or : (x : List ℕ) → T (is_stamp x) → T (is_stamp_or_none x)
      stamp_or [] t = tt
      stamp_or (y ∷ ys) t = t
  apply_keeps (set_marks m) cs s h o f = (record { stamp_ok = h.stamp_ok; out_low = h.out_low; out_high = h.out_high; inc_high = h.inc_high; flight_high = h.flight_high; marks_ok = o; msgs_rise = h.msgs_rise; msgs_bytes = h.msgs_bytes; msgs_count = h.msgs_count }, f)

  pub apply_all_keeps : (cs : List Change) (s : Session) → Holdable C M s → Each Storable cs → fits s.next_out cs ≡ true → Holdable C M (apply_all C M cs s)
  apply_all_keeps [] s h o f = h
  apply_all_keeps (c ∷ cs) s h o f =
      let k = apply_keeps c cs s h o.0 f in
      apply_all_keeps cs (apply C M c s) k.0 o.1 k.1
