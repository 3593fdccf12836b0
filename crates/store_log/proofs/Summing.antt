-- Reading the messages one by one from a place in the log, and their hash. Assumes nothing.
use Rattle.std.proofs.Common.{◌≡◌, ℕ, zero, suc, ◌+◌, ◌-◌, ◌*◌, ◌≤◌, max, List, [], ◌∷◌, ◌++◌, reverse, length, get_or, take, drop, sym, refl, ap, ◌∙◌, arith, take-suc, eq-eqb, ne_eqb}
use mathlib.Core.Bool.{or-true}
use mathlib.Core.List.{reverse-append}
use Rattle.model_session.specs.Session.{Msg, stored_bytes}
use Rattle.model_session.specs.Summary.{fnv_messages, fnv_start, numbered_from}
use Rattle.store_log.specs.Log.{msg, Entry, entry, num_of, len_of, entry_at, slot_at, newest, newest_first, head_of, tail_of, unrolled, log_of, rest_of, Position, NextMessage, Spanned, last_of}
use Rattle.store_log.proofs.Ring.{length_unrolled}
use Rattle.store_log.proofs.Slots.{head_lt, tail_le, entry_at_lem}
use Rattle.store_log.proofs.Forward.{Nth, nth}

module _ (M next : ℕ) (w b : List ℕ) where
  abbrev pub All : List Msg
  All = newest_first (length b) M next w b

  -- the i-th newest message, at its slot s
  pub record Seen (s i dist : ℕ) : Type 0 where
    pub fits : get_or w (3 + 2 * s) 0 ≤ dist
    pub is : get_or All (i - 1) (msg 0 []) ≡ msg (get_or w (2 + 2 * s) 0) (take (get_or w (3 + 2 * s) 0) (drop (length b - dist) (unrolled (tail_of (length b) w) b)))
    pub later : dist - get_or w (3 + 2 * s) 0 ≡ stored_bytes (take (i - 1) All)

  seen_suc : (k dist : ℕ) → suc k ≤ length All → suc k ≤ M → dist ≡ stored_bytes (take (suc k) All) → Seen (slot_at M (head_of M w) (suc k)) (suc k) dist
  seen_suc k dist many few far =
      let C : ℕ = length b in
      let u : List ℕ = unrolled (tail_of C w) b in
      let lu : length u ≡ C = length_unrolled (tail_of C w) b (tail_le C w) in
      let n : Nth C u All (newest M w) 0 k = nth C u lu (newest M w) 0 next k many in
      let s : ℕ = slot_at M (head_of M w) (suc k) in
      let e : get_or (newest M w) k (entry 0 0) ≡ entry_at w s = entry_at_lem w M M (head_of M w) k (head_lt M w (omega arith)) (omega arith) few in
      let len : ℕ = get_or w (3 + 2 * s) 0 in
      let S : ℕ = stored_bytes (take (suc k) All) in
      let sum : S ≡ stored_bytes (take k All) + len = n.sum ∙ ap (λ (x : Entry). stored_bytes (take k All) + len_of x) e in
      let dT : 0 + S ≡ dist = omega arith in
      let one : suc k - 1 ≡ k = omega arith in
      record {
        fits = omega (arith, sum, dT);
        is = rw one (n.is ∙ (λ j. msg (num_of (e j)) (take (len_of (e j)) (drop (C - dT j) u))));
        later = rw one (omega (arith, sum, dT));
      }

  pub seen : (s top i dist : ℕ) → 1 ≤ i → Position (length b) M next w b i dist → top ≡ head_of M w → s ≡ slot_at M top i → Seen s i dist
  seen s top zero dist a p et es = absurd (omega arith)
  seen s top (suc k) dist a p et es = rw (es, et) (seen_suc k dist p.many p.few p.sum)

  -- the message as two parts of the ring, and the place after it
  pub read : (s left dist number start first rest : ℕ) → Position (length b) M next w b left dist → 1 ≤ left → Seen s left dist → number ≡ get_or w (2 + 2 * s) 0
      → Spanned (tail_of (length b) w) (length b) dist (get_or w (3 + 2 * s) 0) start first rest
      → NextMessage (length b) M next w b left dist number start first rest (left - 1) (dist - get_or w (3 + 2 * s) 0)
  unfolding rest_of
  read s left dist number start first rest i h v en p =
      let k : ℕ = left - 1 in
      let one : left ≡ suc k = omega arith in
      let m : get_or All k (msg 0 []) ≡ msg number (take first (drop start b) ++ take rest b) = v.is ∙ (λ j. msg (sym en j) (sym (p.holds b refl) j)) in
      record {
        is = ap (λ (z : ℕ). reverse (take z All)) one ∙ ap reverse (take-suc All k (msg 0 []) (omega (arith, i.many))) ∙ reverse-append (take k All) (get_or All k (msg 0 []) ∷ []) ∙ ap (λ (x : Msg). x ∷ reverse (take k All)) m;
        stands = record { many = omega (arith, i.many); few = omega (arith, i.few); sum = v.later; room = omega (arith, i.room) };
        inside = p.inside;
        front = p.front;
        fewer = omega arith;
        nearer = omega (arith, p.long, v.fits);
      }

  -- ---- the hash

  pub record Hashing (low hash left dist : ℕ) : Type 0 where
    pub stands : Position (length b) M next w b left dist
    pub done : fnv_messages fnv_start (numbered_from low (log_of (length b) M next w b)) ≡ fnv_messages hash (rest_of (length b) M next w b left)

  pub hashing_ends : (low hash left dist : ℕ) → Hashing low hash left dist → left ≡ 0 → hash ≡ fnv_messages fnv_start (numbered_from low (log_of (length b) M next w b))
  unfolding rest_of
  hashing_ends low hash left dist i z = sym (i.done ∙ ap (λ (k : ℕ). fnv_messages hash (reverse (take k All))) z)

-- ---- last_outgoing

pub last_zero : (n next : ℕ) (l : List Msg) → n ≡ 0 → 0 ≡ last_of next n l
unfolding last_of
last_zero n next l e = simp (eq-eqb n 0 e)

pub last_one : (n next : ℕ) (l : List Msg) → next ≡ 1 → 0 ≡ last_of next n l
unfolding last_of
last_one n next l h = simp (eq-eqb next 1 h, or-true)

pub last_some : (n next lo r : ℕ) (l : List Msg) → (n ≡ 0 → ⊥) → (next ≡ 1 → ⊥) → lo ≡ max (next - n) 1 → r ≡ fnv_messages fnv_start (numbered_from lo l) → r ≡ last_of next n l
unfolding last_of
last_some n next lo r l h k e q = q ∙ ap (λ (x : ℕ). fnv_messages fnv_start (numbered_from x l)) e ∙ sym (simp (ne_eqb n 0 h, ne_eqb next 1 k))
