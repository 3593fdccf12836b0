-- THE LAW OF THE LOG, whatever the slices hold; and lists of small numbers. Assumes nothing.
use Rattle.std.proofs.Common.{◌≡◌, ℕ, zero, suc, ◌+◌, ◌-◌, ◌<◌, ◌≤◌, T, List, [], ◌∷◌, ◌++◌, reverse, length, get_or, take, drop, refl, ap, arith, length-take, lt-ltb}
use mathlib.Core.List.{reverse-cons}
use lib.ListN.{length-reverse}
use Rattle.model_session.specs.Session.{Msg, stored_bytes, is_bytes, Rising}
use Rattle.store_log.specs.Log.{msg, Entry, entry, walk, entries, before, newest, newest_first, head_of, tail_of, unrolled, log_of, Lawful}
use Rattle.store_log.proofs.Walk.{Look, hit, low, high, full, look, walk_hit, walk_low, walk_high, walk_full, stored_reverse}

-- ---- every element is below n

abbrev pub Small : ℕ → List ℕ → Type 0
Small n l = (i : ℕ) → get_or l i 0 < n

pub small_take : {n : ℕ} (k : ℕ) (l : List ℕ) → 0 < n → Small n l → Small n (take k l)
small_take zero l z h i = z
small_take (suc k) [] z h i = z
small_take (suc k) (x ∷ l) z h zero = h zero
small_take (suc k) (x ∷ l) z h (suc i) = small_take k l z (λ j. h (suc j)) i

pub small_drop : {n : ℕ} (k : ℕ) (l : List ℕ) → Small n l → Small n (drop k l)
small_drop zero l h = h
small_drop (suc k) [] h = h
small_drop (suc k) (x ∷ l) h = small_drop k l (λ j. h (suc j))

pub small_append : {n : ℕ} (a b : List ℕ) → Small n a → Small n b → Small n (a ++ b)
small_append [] b ha hb i = hb i
small_append (x ∷ a) b ha hb zero = ha zero
small_append (x ∷ a) b ha hb (suc i) = small_append a b (λ j. ha (suc j)) hb i

pub small_bytes : (l : List ℕ) → Small 256 l → T (is_bytes l)
small_bytes [] h = tt
small_bytes (x ∷ l) h = simp (lt-ltb x 256 (h zero)) (small_bytes l (λ j. h (suc j)))

-- ---- the law

rising_snoc : (lo n hi : ℕ) (b : List ℕ) (l : List Msg) → lo ≤ n → Rising lo n l → n < hi → T (is_bytes b) → Rising lo hi (l ++ (msg n b ∷ []))
rising_snoc lo n hi b [] s h k t = (s, k, t, tt)
rising_snoc lo n hi b (x ∷ l) s h k t = (h.0, omega (arith, h.1), h.2, rising_snoc (suc x.num) n hi b l h.1 h.3 k t)

record Good (C d bound : ℕ) (es : List Entry) (w : List Msg) : Type 0 where
  rising : Rising 1 bound (reverse w)
  count : length w ≤ length es
  bytes : d + stored_bytes w ≤ C

good_nil : (C d bound : ℕ) (es : List Entry) → d ≤ C → Good C d bound es []
good_nil C d bound es k = record { rising = tt; count = omega arith; bytes = omega arith }

good_step : (C : ℕ) (u : List ℕ) (n l : ℕ) (es : List Entry) (d bound : ℕ) → Small 256 u → d ≤ C
    → (d + l ≤ C → Good C (d + l) n es (walk C u es (d + l) n)) → Look C d bound n l
    → Good C d bound (entry n l ∷ es) (walk C u (entry n l ∷ es) d bound)
good_step C u n l es d bound s q rec (low h) = rw (walk_low C u n l es d bound h) (good_nil C d bound (entry n l ∷ es) q)
good_step C u n l es d bound s q rec (high h) = rw (walk_high C u n l es d bound h) (good_nil C d bound (entry n l ∷ es) q)
good_step C u n l es d bound s q rec (full h) = rw (walk_full C u n l es d bound h) (good_nil C d bound (entry n l ∷ es) q)
good_step C u n l es d bound s q rec (hit a b r) =
    let g = rec r in
    let A : List ℕ = take l (drop (C - (d + l)) u) in
    let la : length A ≤ l = omega (arith, length-take l (drop (C - (d + l)) u)) in
    let t : T (is_bytes A) = small_bytes A (small_take l (drop (C - (d + l)) u) (omega arith) (small_drop (C - (d + l)) u s)) in
    rw (walk_hit C u n l es d bound a b r) (record {
      rising = rw (reverse-cons (msg n A) (walk C u es (d + l) n)) (rising_snoc 1 n bound A (reverse (walk C u es (d + l) n)) a g.rising b t);
      count = omega (arith, g.count);
      bytes = omega (arith, g.bytes);
    })

good : (C : ℕ) (u : List ℕ) (es : List Entry) (d bound : ℕ) → Small 256 u → d ≤ C → Good C d bound es (walk C u es d bound)
good C u [] d bound s q = good_nil C d bound [] q
good C u (entry n l ∷ es) d bound s q = good_step C u n l es d bound s q (λ r. good C u es (d + l) n s r) (look C d bound n l)

pub length_entries : (w : List ℕ) (M f s : ℕ) → length (entries w M f s) ≡ f
length_entries w M zero s = refl
length_entries w M (suc f) s = ap suc (length_entries w M f (before M s))

pub lawful : (C M next : ℕ) (w b : List ℕ) → Small 256 b → Lawful C M next (log_of C M next w b)
unfolding log_of
lawful C M next w b h =
    let L : List Msg = newest_first C M next w b in
    let t : ℕ = tail_of C w in
    let g = good C (unrolled t b) (newest M w) 0 next (small_append (drop t b) (take t b) (small_drop t b h) (small_take t b (omega arith) h)) (omega arith) in
    record {
      rising = g.rising;
      count = omega (arith, g.count, length-reverse L, length_entries w M M (head_of M w));
      bytes = omega (arith, g.bytes, stored_reverse L);
    }
