-- Reading the messages from the oldest on. Assumes nothing.
use Rattle.std.proofs.Common.{◌≡◌, ℕ, zero, suc, ◌+◌, ◌-◌, ◌<◌, ◌≤◌, ◌⊎◌, List, [], ◌∷◌, ◌++◌, reverse, length, get_or, take, drop, sym, refl, ap, ◌∙◌, inl, inr, append-nil, add_assoc, arith, length-drop, length-take-le, le-leb}
use mathlib.Core.List.{reverse-cons}
use borrow.Author.Tests.{lt-leb}
use Rattle.model_session.specs.Session.{Msg, stored_bytes}
use Rattle.model_session.specs.Summary.{numbered_from}
use Rattle.store_log.specs.Log.{msg, Entry, entry, num_of, len_of, walk, since}
use Rattle.store_log.proofs.Walk.{cmp, Look, hit, low, high, full, look, walk_hit, walk_low, walk_high, walk_full}

since_hit : (lo n : ℕ) (b : List ℕ) (l : List Msg) → lo ≤ n → since lo (msg n b ∷ l) ≡ msg n b ∷ since lo l
since_hit lo n b l h = simp (le-leb lo n h)

since_stop : (lo n : ℕ) (b : List ℕ) (l : List Msg) → n < lo → since lo (msg n b ∷ l) ≡ []
since_stop lo n b l h = simp (lt-leb lo n h)

-- what `since` gives is the front of the list
pub record Taken (lo : ℕ) (l : List Msg) : Type 0 where
  pub few : length (since lo l) ≤ length l
  pub is : take (length (since lo l)) l ≡ since lo l

pub since_taken : (lo : ℕ) (l : List Msg) → Taken lo l
since_taken lo [] = record { few = omega arith; is = refl }
since_taken lo (x ∷ l) = go (cmp lo x.num) (since_taken lo l)
  where
    go : (lo ≤ x.num) ⊎ (x.num < lo) → Taken lo l → Taken lo (x ∷ l)
    go (inl h) r =
        let e : since lo (x ∷ l) ≡ x ∷ since lo l = since_hit lo x.num x.text l h in
        record { few = omega (arith, ap length e, r.few); is = ap (λ (t : List Msg). take (length t) (x ∷ l)) e ∙ ap (λ (t : List Msg). x ∷ t) r.is ∙ sym e }
    go (inr h) r =
        let e : since lo (x ∷ l) ≡ [] = since_stop lo x.num x.text l h in
        record { few = omega (arith, ap length e); is = ap (λ (t : List Msg). take (length t) (x ∷ l)) e ∙ sym e }

-- ---- the k-th newest message

pub record Nth (C : ℕ) (u : List ℕ) (R : List Msg) (es : List Entry) (d k : ℕ) : Type 0 where
  pub is : get_or R k (msg 0 []) ≡ msg (num_of (get_or es k (entry 0 0))) (take (len_of (get_or es k (entry 0 0))) (drop (C - (d + stored_bytes (take (suc k) R))) u))
  pub sum : stored_bytes (take (suc k) R) ≡ stored_bytes (take k R) + len_of (get_or es k (entry 0 0))
  pub room : d + stored_bytes (take (suc k) R) ≤ C

module _ (C : ℕ) (u : List ℕ) (lu : length u ≡ C) where
  module _ (n l : ℕ) (es : List Entry) (d bound : ℕ) where
    A : List ℕ
    A = take l (drop (C - (d + l)) u)

    none : (k : ℕ) → walk C u (entry n l ∷ es) d bound ≡ [] → k < length (walk C u (entry n l ∷ es) d bound) → ⊥
    none k e h =
        let z : length (walk C u (entry n l ∷ es) d bound) ≡ 0 = rw e in
        omega arith

    nth_cons : (k : ℕ) → d + l ≤ C → ((j : ℕ) → j < length (walk C u es (d + l) n) → Nth C u (walk C u es (d + l) n) es (d + l) j)
        → k < suc (length (walk C u es (d + l) n)) → Nth C u (msg n A ∷ walk C u es (d + l) n) (entry n l ∷ es) d k
    unfolding A
    nth_cons zero r rec h =
        let la : length A ≡ l = length-take-le l (drop (C - (d + l)) u) (simp length-drop (omega arith)) in
        let t : stored_bytes (take 1 (msg n A ∷ walk C u es (d + l) n)) ≡ l = omega (arith, la) in
        record {
          is = ap (λ (x : ℕ). msg n (take l (drop (C - (d + x)) u))) (sym t);
          sum = omega (arith, t);
          room = omega (arith, t);
        }
    nth_cons (suc j) r rec h =
        let la : length A ≡ l = length-take-le l (drop (C - (d + l)) u) (simp length-drop (omega arith)) in
        let g = rec j (omega arith) in
        let S : ℕ = stored_bytes (take (suc j) (walk C u es (d + l) n)) in
        let e : d + l + S ≡ d + (length A + S) = omega (arith, la) in
        record {
          is = g.is ∙ ap (λ (x : ℕ). msg (num_of (get_or es j (entry 0 0))) (take (len_of (get_or es j (entry 0 0))) (drop (C - x) u))) e;
          sum = ap (λ (x : ℕ). length A + x) g.sum ∙ sym (add_assoc (length A) (stored_bytes (take j (walk C u es (d + l) n))) (len_of (get_or es j (entry 0 0))));
          room = omega (arith, g.room, e);
        }

    nth_step : (k : ℕ) → (d + l ≤ C → (j : ℕ) → j < length (walk C u es (d + l) n) → Nth C u (walk C u es (d + l) n) es (d + l) j)
        → Look C d bound n l → k < length (walk C u (entry n l ∷ es) d bound) → Nth C u (walk C u (entry n l ∷ es) d bound) (entry n l ∷ es) d k
    unfolding A
    nth_step k rec (low p) h = absurd (none k (walk_low C u n l es d bound p) h)
    nth_step k rec (high p) h = absurd (none k (walk_high C u n l es d bound p) h)
    nth_step k rec (full p) h = absurd (none k (walk_full C u n l es d bound p) h)
    nth_step k rec (hit p q r) h =
        let e : walk C u (entry n l ∷ es) d bound ≡ msg n A ∷ walk C u es (d + l) n = walk_hit C u n l es d bound p q r in
        rw e (nth_cons k r (rec r) (rw e at h))

  pub nth : (es : List Entry) (d bound k : ℕ) → k < length (walk C u es d bound) → Nth C u (walk C u es d bound) es d k
  nth [] d bound k h = absurd (omega arith)
  nth (entry n l ∷ es) d bound k h = nth_step n l es d bound k (λ r j m. nth es (d + l) n j m) (look C d bound n l) h

-- ---- oldest first

from_append : (lo : ℕ) (a b : List Msg) → numbered_from lo (a ++ b) ≡ numbered_from lo a ++ numbered_from lo b
from_append lo [] b = refl
from_append lo (x ∷ a) b = go (cmp lo x.num) (from_append lo a b)
  where
    go : (lo ≤ x.num) ⊎ (x.num < lo) → numbered_from lo (a ++ b) ≡ numbered_from lo a ++ numbered_from lo b → numbered_from lo (x ∷ (a ++ b)) ≡ numbered_from lo (x ∷ a) ++ numbered_from lo b
    go (inl h) e = simp (le-leb lo x.num h) (ap (λ (t : List Msg). x ∷ t) e)
    go (inr h) e = simp (lt-leb lo x.num h) e

module _ (C : ℕ) (u : List ℕ) (lo : ℕ) where
  since_none : (es : List Entry) (d bound : ℕ) → bound ≤ lo → since lo (walk C u es d bound) ≡ []
  since_none [] d bound h = refl
  since_none (entry n l ∷ es) d bound h = go (look C d bound n l)
    where
      go : Look C d bound n l → since lo (walk C u (entry n l ∷ es) d bound) ≡ []
      go (low p) = ap (since lo) (walk_low C u n l es d bound p)
      go (high p) = ap (since lo) (walk_high C u n l es d bound p)
      go (full p) = ap (since lo) (walk_full C u n l es d bound p)
      go (hit p q r) = ap (since lo) (walk_hit C u n l es d bound p q r) ∙ since_stop lo n (take l (drop (C - (d + l)) u)) (walk C u es (d + l) n) (omega arith)

  from_step : (n l : ℕ) (es : List Entry) (d bound : ℕ) → numbered_from lo (reverse (walk C u es (d + l) n)) ≡ reverse (since lo (walk C u es (d + l) n))
      → Look C d bound n l → (lo ≤ n) ⊎ (n < lo) → numbered_from lo (reverse (walk C u (entry n l ∷ es) d bound)) ≡ reverse (since lo (walk C u (entry n l ∷ es) d bound))
  from_step n l es d bound rec (low p) j = rw (walk_low C u n l es d bound p)
  from_step n l es d bound rec (high p) j = rw (walk_high C u n l es d bound p)
  from_step n l es d bound rec (full p) j = rw (walk_full C u n l es d bound p)
  from_step n l es d bound rec (hit p q r) (inl j) =
      let m : Msg = msg n (take l (drop (C - (d + l)) u)) in
      let W : List Msg = walk C u es (d + l) n in
      rw (walk_hit C u n l es d bound p q r)
      (ap (numbered_from lo) (reverse-cons m W) ∙ from_append lo (reverse W) (m ∷ [])
      ∙ (λ i. rec i ++ since_hit lo n (take l (drop (C - (d + l)) u)) [] j i)
      ∙ sym (ap reverse (since_hit lo n (take l (drop (C - (d + l)) u)) W j) ∙ reverse-cons m (since lo W)))
  from_step n l es d bound rec (hit p q r) (inr j) =
      let m : Msg = msg n (take l (drop (C - (d + l)) u)) in
      let W : List Msg = walk C u es (d + l) n in
      let z : numbered_from lo (m ∷ []) ≡ [] = simp (lt-leb lo n j) in
      rw (walk_hit C u n l es d bound p q r)
      (ap (numbered_from lo) (reverse-cons m W) ∙ from_append lo (reverse W) (m ∷ [])
      ∙ (λ i. rec i ++ z i)
      ∙ append-nil (reverse (since lo W)) ∙ ap reverse (since_none es (d + l) n (omega arith))
      ∙ sym (ap reverse (since_stop lo n (take l (drop (C - (d + l)) u)) W j)))

  pub from_since : (es : List Entry) (d bound : ℕ) → numbered_from lo (reverse (walk C u es d bound)) ≡ reverse (since lo (walk C u es d bound))
  from_since [] d bound = refl
  from_since (entry n l ∷ es) d bound = from_step n l es d bound (from_since es (d + l) n) (look C d bound n l) (cmp lo n)
