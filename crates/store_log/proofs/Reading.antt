-- Walking the entries from the newest back. Assumes nothing.
use Rattle.std.proofs.Common.{◌≡◌, ℕ, ◌^◌, zero, suc, ◌+◌, ◌-◌, ◌*◌, ◌<◌, ◌≤◌, ◌⊎◌, inl, inr, List, [], ◌∷◌, reverse, length, get_or, take, drop, sym, refl, ap, subst, ◌∙◌, arith, length-drop, length-take-le, le-leb}
use borrow.Author.Tests.{lt-leb}
use Rattle.model_session.specs.Session.{Msg, stored_bytes}
use Rattle.store_log.specs.Log.{msg, Entry, entry, entry_at, before, entries, newest, newest_first, tail_of, unrolled, walk, since, log_of, rest_of, From, uncounted, Counted, Reached}
use Rattle.store_log.proofs.Slots.{tail_le}
use Rattle.store_log.proofs.Ring.{length_unrolled}
use Rattle.store_log.proofs.Walk.{cmp, Look, hit, low, high, full, look, walk_hit, walk_low, walk_high, walk_full}
use Rattle.store_log.proofs.Forward.{since_taken, from_since}

module _ (C M lo : ℕ) (w u : List ℕ) where
  -- what is still to be counted: f entries before slot s
  abbrev pub left : ℕ → ℕ → ℕ → ℕ → List Msg
  left f s d bound = since lo (walk C u (entries w M f s) d bound)

  abbrev pub num_at : ℕ → ℕ
  num_at p = get_or w (2 + 2 * p) 0

  abbrev pub len_at : ℕ → ℕ
  len_at p = get_or w (3 + 2 * p) 0

  module _ (f s p d bound : ℕ) (e : p ≡ before M s) where
    left_low : num_at p < lo → left (suc f) s d bound ≡ []
    left_low h = go (look C d bound (num_at p) (len_at p))
      where
        go : Look C d bound (num_at p) (len_at p) → left (suc f) s d bound ≡ []
        go (hit a b r) = rw (← e, walk_hit C u (num_at p) (len_at p) (entries w M f p) d bound a b r) (simp (lt-leb lo (num_at p) h))
        go (low a) = rw (← e, walk_low C u (num_at p) (len_at p) (entries w M f p) d bound a)
        go (high a) = rw (← e, walk_high C u (num_at p) (len_at p) (entries w M f p) d bound a)
        go (full a) = rw (← e, walk_full C u (num_at p) (len_at p) (entries w M f p) d bound a)

    left_high : bound ≤ num_at p → left (suc f) s d bound ≡ []
    left_high h = rw (← e, walk_high C u (num_at p) (len_at p) (entries w M f p) d bound h)

    left_full : C < d + len_at p → left (suc f) s d bound ≡ []
    left_full h = rw (← e, walk_full C u (num_at p) (len_at p) (entries w M f p) d bound h)

    left_hit : 1 ≤ lo → lo ≤ num_at p → num_at p < bound → d + len_at p ≤ C
        → left (suc f) s d bound ≡ msg (num_at p) (take (len_at p) (drop (C - (d + len_at p)) u)) ∷ left f p (d + len_at p) (num_at p)
    left_hit a b c r = rw (← e, walk_hit C u (num_at p) (len_at p) (entries w M f p) d bound (omega arith) c r) (simp (le-leb lo (num_at p) b))

-- numbers below lo aren't counted
all_below : (C lo : ℕ) (u : List ℕ) (es : List Entry) (d bound : ℕ) → bound ≤ lo → since lo (walk C u es d bound) ≡ []
all_below C lo u [] d bound h = refl
all_below C lo u (entry n l ∷ es) d bound h = go (look C d bound n l)
  where
    go : Look C d bound n l → since lo (walk C u (entry n l ∷ es) d bound) ≡ []
    go (hit a b r) = rw (walk_hit C u n l es d bound a b r) (simp (lt-leb lo n (omega arith)))
    go (low a) = rw (walk_low C u n l es d bound a)
    go (high a) = rw (walk_high C u n l es d bound a)
    go (full a) = rw (walk_full C u n l es d bound a)

-- what `above` gives of a number
abbrev Above : ℕ → ℕ → ℕ → Type 0
Above lo n x = (lo ≤ n → lo + x ≡ n) × (n < lo → 2 ^ 64 ≤ lo + x)

between : (lo n x reach : ℕ) → lo + reach < 2 ^ 64 → Above lo n x → x < reach → (lo + x ≡ n) × (lo ≤ n)
between lo n x reach f a h = go (cmp lo n)
  where
    go : (lo ≤ n) ⊎ (n < lo) → (lo + x ≡ n) × (lo ≤ n)
    go (inl k) = (a.0 k, k)
    go (inr k) = absurd (omega (arith, a.1 k))

apart : (lo n x reach : ℕ) → Above lo n x → reach ≤ x → (n < lo) ⊎ (lo + reach ≤ n)
apart lo n x reach a h = go (cmp lo n)
  where
    go : (lo ≤ n) ⊎ (n < lo) → (n < lo) ⊎ (lo + reach ≤ n)
    go (inl k) = inr (omega (arith, a.0 k))
    go (inr k) = inl k

below_one : (M slot : ℕ) → 0 < slot → slot - 1 ≡ before M slot
below_one M zero h = absurd (omega arith)
below_one M (suc s) h = omega arith

-- the entries before slot 0 are those before slot M
round : (w : List ℕ) (M f : ℕ) → entries w M f 0 ≡ entries w M f M
round w M zero = refl
round w zero (suc f) = refl
round w (suc m) (suc f) =
    let e : suc m - 1 ≡ m = omega arith in
    ap (λ (s : ℕ). entry_at w s ∷ entries w (suc m) f s) e

-- the same of the log in the slices
module _ (C M next lo : ℕ) (w b : List ℕ) where
  abbrev u : List ℕ
  u = unrolled (tail_of C w) b

  abbrev All : List Msg
  All = since lo (newest_first C M next w b)

  abbrev Found : ℕ → ℕ → Type 0
  Found count sum = From C M next lo w b count sum

  abbrev Count : ℕ → ℕ → ℕ → ℕ → Type 0
  Count count sum slot bound = Counted C M next lo w b count sum slot bound

  abbrev At : ℕ → ℕ → ℕ → ℕ → Type 0
  At count room slot reach = Reached C M next lo w b count room slot reach

  found : (count sum : ℕ) → count ≤ M → sum ≤ C → length All ≡ count → stored_bytes All ≡ sum → Found count sum
  unfolding log_of rest_of
  found count sum m r h k =
      let L : List Msg = newest_first C M next w b in
      let t : take count L ≡ since lo L = ap (λ (k : ℕ). take k L) (sym h) ∙ (since_taken lo L).is in
      record {
        stands = record { many = omega (arith, (since_taken lo L).few, h); few = m; sum = sym k ∙ ap stored_bytes (sym t); room = r };
        is = ap reverse t ∙ sym (from_since C u lo (newest M w) 0 next);
      }

  module _ (count sum slot bound : ℕ) (i : Count count sum slot bound) where
    -- nothing is left to count
    done : uncounted C M lo w b count sum slot bound ≡ [] → Found count sum
    done z =
        found count sum i.most i.room
        (i.many ∙ ap (λ (l : List Msg). count + length l) z ∙ omega arith)
        (i.long ∙ ap (λ (l : List Msg). sum + stored_bytes l) z ∙ omega arith)

    pub stopped_all : M ≤ count → Found count sum
    stopped_all h =
        let e : M - count ≡ 0 = omega arith in
        done (rw e)

    module _ (p : ℕ) (more : count < M) (e : p ≡ before M slot) where
      fuel : M - count ≡ suc (M - (count + 1))
      fuel = omega arith

      -- the entry before slot isn't read
      pub stopped_low : get_or w (2 + 2 * p) 0 < lo → Found count sum
      stopped_low h = done (rw fuel (left_low C M lo w u (M - (count + 1)) slot p sum bound e h))

      pub stopped_high : bound ≤ get_or w (2 + 2 * p) 0 → Found count sum
      stopped_high h = done (rw fuel (left_high C M lo w u (M - (count + 1)) slot p sum bound e h))

      pub stopped_full : C - sum < get_or w (3 + 2 * p) 0 → Found count sum
      stopped_full h = done (rw fuel (left_full C M lo w u (M - (count + 1)) slot p sum bound e (omega (arith, i.room))))

      -- the entry before slot is read
      pub walked : 1 ≤ lo → lo ≤ get_or w (2 + 2 * p) 0 → get_or w (2 + 2 * p) 0 < bound → get_or w (3 + 2 * p) 0 ≤ C - sum → C ≡ length b
          → Count (count + 1) (sum + get_or w (3 + 2 * p) 0) p (get_or w (2 + 2 * p) 0)
      walked hl hn hb room lb =
          let n : ℕ = get_or w (2 + 2 * p) 0 in
          let l : ℕ = get_or w (3 + 2 * p) 0 in
          let d : ℕ = sum + l in
          let rr : d ≤ C = omega (arith, i.room) in
          let lu : length u ≡ C = length_unrolled (tail_of C w) b (omega (arith, tail_le C w, lb)) ∙ sym lb in
          let A : List ℕ = take l (drop (C - d) u) in
          let la : length A ≡ l = length-take-le l (drop (C - d) u) (simp length-drop (omega arith)) in
          let z : uncounted C M lo w b count sum slot bound ≡ msg n A ∷ uncounted C M lo w b (count + 1) d p n =
          rw fuel (left_hit C M lo w u (M - (count + 1)) slot p sum bound e hl hn hb rr) in
          record {
            most = omega arith;
            room = rr;
            many = i.many ∙ ap (λ (l : List Msg). count + length l) z ∙ omega arith;
            long = i.long ∙ ap (λ (l : List Msg). sum + stored_bytes l) z ∙ omega (arith, la);
          }

  module _ (count room slot reach x : ℕ) (i : At count room slot reach) (some : 1 ≤ slot) (more : count < M) where
    abbrev number : ℕ
    number = get_or w (2 + 2 * (slot - 1)) 0

    abbrev len : ℕ
    len = get_or w (3 + 2 * (slot - 1)) 0

    at : slot - 1 ≡ before M slot
    at = below_one M slot some

    pub ends_apart : Above lo number x → reach ≤ x → Found count (C - room)
    ends_apart a h = go (apart lo number x reach a h)
      where
        go : (number < lo) ⊎ (lo + reach ≤ number) → Found count (C - room)
        go (inl k) = stopped_low count (C - room) slot (lo + reach) i.counted (slot - 1) more at k
        go (inr k) = stopped_high count (C - room) slot (lo + reach) i.counted (slot - 1) more at k

    pub ends_full : room < len → Found count (C - room)
    ends_full h = stopped_full count (C - room) slot (lo + reach) i.counted (slot - 1) more at (omega (arith, i.within))

    pub goes : 1 ≤ lo → Above lo number x → x < reach → len ≤ room → C ≡ length b → At (count + 1) (room - len) (slot - 1) x
    goes hl a h hr lb =
        let inside : (lo + x ≡ number) × (lo ≤ number) = between lo number x reach i.fits a h in
        let d : C - room + len ≡ C - (room - len) = omega (arith, i.within) in
        let below : number < lo + reach = omega (arith, inside.0) in
        record {
          counted = subst (λ (j : ℕ). Count (count + 1) j (slot - 1) (lo + x)) d
              (subst (λ (j : ℕ). Count (count + 1) (C - room + len) (slot - 1) j) (sym inside.0)
              (walked count (C - room) slot (lo + reach) i.counted (slot - 1) more at hl inside.1 below (omega (arith, i.within)) lb));
          within = omega (arith, i.within);
          fits = omega (arith, i.fits);
        }

  -- where next is lo or below it, there is none
  pub counted_out : next ≤ lo → Found 0 0
  counted_out h =
      let none : All ≡ [] = all_below C lo u (newest M w) 0 next h in
      found 0 0 (omega arith) (omega arith) (ap length none) (ap stored_bytes none)

  -- the slot 0 is the slot M again
  pub counted_round : (count sum bound : ℕ) → Count count sum 0 bound → Count count sum M bound
  counted_round count sum bound i =
      let e : entries w M (M - count) 0 ≡ entries w M (M - count) M = round w M (M - count) in
      record {
        most = i.most;
        room = i.room;
        many = subst (λ (es : List Entry). length All ≡ count + length (since lo (walk C u es sum bound))) e i.many;
        long = subst (λ (es : List Entry). stored_bytes All ≡ sum + stored_bytes (since lo (walk C u es sum bound))) e i.long;
      }

  pub reached_round : (count room slot reach : ℕ) → slot ≤ 0 → At count room slot reach → At count room M reach
  reached_round count room zero reach h i = record { counted = counted_round count (C - room) (lo + reach) i.counted; within = i.within; fits = i.fits }
  reached_round count room (suc s) reach h i = absurd (omega arith)

  -- all slots were walked through, or the walk stopped before
  pub arrived : (count room slot reach start : ℕ) → At count room slot reach → count + slot ≡ M + start → start ≤ slot → (start < slot → Found count (C - room)) → Found count (C - room)
  arrived count room slot reach start i e k stopped = go (cmp slot start)
    where
      go : (slot ≤ start) ⊎ (start < slot) → Found count (C - room)
      go (inl h) = stopped_all count (C - room) slot (lo + reach) i.counted (omega arith)
      go (inr h) = stopped h

pub counted_none : (C M next lo : ℕ) (w b : List ℕ) → M ≡ 0 → From C M next lo w b 0 0
unfolding log_of rest_of
counted_none C M next lo w b e = rw e (record { stands = record { many = omega arith; few = omega arith; sum = refl; room = omega arith }; is = refl })
