-- The row's rules: none of its records breaks them before, none after. Assumes nothing.
use mathlib.Core.Path.{◌≡◌, refl, sym, ap, subst, ◌∙◌}
use mathlib.Core.Bool.{Bool, true, false, cond, not, ◌&&◌, ◌||◌, true≢false}
use mathlib.Core.List.{List, [], ◌∷◌}
use Prim.Native.Nat.{ℕ, zero, suc, ◌+◌, ◌*◌, ◌≤◌, ◌<◌, min}
use native.Mathlib.Omega.{arith}
use lib.Dec.{leb, ltb, eqb}
use lib.ListN.{length, get_or, set, take, drop, length-set}
use lib.Seq.{sets, take-set-le, drop-set-lt}
use borrow.Author.Tests.{leb-true, leb-false, ltb-true, ltb-false, eqb-true, le-leb, lt-leb, lt-ltb, le-ltb}
use Rattle.model_text.specs.Version.{latest}
use Rattle.model_frame.specs.Bytes.{write}
use Rattle.std.specs.Prelude.{Option, Some, is_some, unwrap_or}
use Rattle.std.specs.Prelude as prelude
use Rattle.standby_segments.specs.Segments.{Holds, Lengths, open_from, end_for}
use Rattle.standby_row.specs.declared.Bound.{Bound}
use Rattle.standby_row.specs.declared.lookup.Found.{Found}
use Rattle.standby_row.specs.declared.lookup.Lookup.{Lookup}
use Rattle.standby_row.specs.Row.{free_record, is_used, is_of, is_free, breaks_of, is_rival, zero_or_next, first_of, find_of, free_of, broken_of, cleared, cleared_all, released, rival_of, alone_at, spot_for, place_in, found_at, at_or, record_or_free, own_place, own_record, has_place, apart_of, SeenOf}
use Rattle.store_areas.specs.Areas.{allowed}
use Rattle.model_standby.specs.Handles.{apart}
use Rattle.standby_counters.specs.declared.Replica.{Replica}
use Rattle.standby_state.specs.declared.Settings.{Settings}
use Rattle.standby_state.specs.Outcomes.{spot_of}
use Rattle.standby_step.specs.Steps.{room_of, room_in, lengths_in, with_end, is_found, seen_allowed}
use Rattle.standby_part.specs.State.{bound_of}
use Rattle.standby_handles.proofs.Apart.{rows_apart, first_or, alone_length, find_released, free_released}
use Rattle.standby_step.specs.Calls.{room_all, lengths_all, standby_of, allowed_all}

zero_less : {n : ℕ} → n < 0 → ⊥
zero_less h = omega arith

-- ---- a search

pub first_is : (p : Bound → Bool) (row : List Bound) → first_of p row < length row → p (get_or row (first_of p row) free_record) ≡ true
first_is p [] less = absurd (zero_less less)
first_is p (h ∷ hs) less = go (p h) refl (first_is p hs) less
  where
    go : (t : Bool) → p h ≡ t → (first_of p hs < length hs → p (get_or hs (first_of p hs) free_record) ≡ true) → zero_or_next t (first_of p hs) < suc (length hs) → p (get_or (h ∷ hs) (zero_or_next t (first_of p hs)) free_record) ≡ true
    go true e ih l = e
    go false e ih l = ih (omega arith)

-- p holds of no record
abbrev pub None : (Bound → Bool) → List Bound → Type 0
None p [] = Unit {0}
None p (h ∷ hs) = (p h ≡ false) × None p hs

none_of : (p : Bound → Bool) (row : List Bound) → length row ≤ first_of p row → None p row
none_of p [] out = tt
none_of p (h ∷ hs) out = go (p h) refl (none_of p hs) out
  where
    go : (t : Bool) → p h ≡ t → (length hs ≤ first_of p hs → None p hs) → suc (length hs) ≤ zero_or_next t (first_of p hs) → (p h ≡ false) × None p hs
    go true e ih l = absurd (zero_less l)
    go false e ih l = (e, ih (omega arith))

of_none : (p : Bound → Bool) (row : List Bound) → None p row → length row ≤ first_of p row
of_none p [] n = omega arith
of_none p (h ∷ hs) n =
    let rest : length hs ≤ first_of p hs = of_none p hs n.1 in
    let more : suc (length hs) ≤ suc (first_of p hs) = omega arith in
    subst (λ (t : Bool). suc (length hs) ≤ zero_or_next t (first_of p hs)) (sym n.0) more

none_at : (p : Bound → Bool) (row : List Bound) (i : ℕ) → i < length row → None p row → p (get_or row i free_record) ≡ false
none_at p [] i l n = absurd (zero_less l)
none_at p (h ∷ hs) zero l n = n.0
none_at p (h ∷ hs) (suc i) l n = none_at p hs i (omega arith) n.1

pub none_set : (p : Bound → Bool) (row : List Bound) (i : ℕ) (g : Bound) → p g ≡ false → None p row → None p (set row i g)
none_set p [] i g e n = tt
none_set p (h ∷ hs) zero g e n = (e, n.1)
none_set p (h ∷ hs) (suc i) g e n = (n.0, none_set p hs i g e n.1)

none_also : (p q : Bound → Bool) (row : List Bound) → ((h : Bound) → p h ≡ false → q h ≡ false) → None p row → None q row
none_also p q [] f n = tt
none_also p q (h ∷ hs) f n = (f h n.0, none_also p q hs f n.1)

-- ---- records that break no rule

or_l : (a b : Bool) → (a || b) ≡ false → a ≡ false
or_l true b e = absurd (true≢false e)
or_l false b e = refl

or_r : (a b : Bool) → (a || b) ≡ false → b ≡ false
or_r true b e = absurd (true≢false e)
or_r false b e = e

abbrev pub Whole : ℕ → ℕ → List Bound → Type 0
Whole used room row = None (λ h. breaks_of h used room) row

pub whole_of : (used room : ℕ) (row : List Bound) → leb (length row) (broken_of row used room) ≡ true → Whole used room row
whole_of used room row e = none_of (λ h. breaks_of h used room) row (leb-true (length row) (broken_of row used room) e)

pub of_whole : (used room : ℕ) (row : List Bound) → Whole used room row → leb (length row) (broken_of row used room) ≡ true
of_whole used room row n = le-leb (length row) (broken_of row used room) (of_none (λ h. breaks_of h used room) row n)

-- a record is freed
pub whole_released : (used room : ℕ) (row : List Bound) (freed : Option ℕ) → Whole used room row → Whole used room (released freed row)
whole_released used room row prelude.None n = n
whole_released used room row (Some i) n = none_set (λ h. breaks_of h used room) row i (cleared (get_or row i free_record)) refl n

pub released_same : (freed : Option ℕ) (row : List Bound) → length (released freed row) ≡ length row
released_same prelude.None row = refl
released_same (Some i) row = length-set row i (cleared (get_or row i free_record))

-- with more places in use
pub whole_more : (used more room : ℕ) (row : List Bound) → used ≤ more → Whole used room row → Whole more room row
whole_more used more room row le n = none_also (λ h. breaks_of h used room) (λ h. breaks_of h more room) row one n
  where
    one : (h : Bound) → breaks_of h used room ≡ false → breaks_of h more room ≡ false
    one h = go (is_used h)
      where
        go : (x : Bool) → (x && (leb used h.place || ltb room h.held_len)) ≡ false → (x && (leb more h.place || ltb room h.held_len)) ≡ false
        go false e = refl
        go true e =
            let less : h.place < used = leb-false used h.place (or_l (leb used h.place) (ltb room h.held_len) e) in
            let low : h.place < more = omega arith in
            ap (λ (x : Bool). x || ltb room h.held_len) (lt-leb more h.place low) ∙ or_r (leb used h.place) (ltb room h.held_len) e

-- a record at a place in use, that holds no more than its area has
pub record_whole : (h : Bound) (used room : ℕ) → h.place < used → h.held_len ≤ room → breaks_of h used room ≡ false
record_whole h used room p l = go (is_used h)
  where
    go : (x : Bool) → (x && (leb used h.place || ltb room h.held_len)) ≡ false
    go false = refl
    go true = (λ i. lt-leb used h.place p i || le-ltb room h.held_len l i)

pub whole_cleared : (used room : ℕ) (row : List Bound) → Whole used room (cleared_all row)
whole_cleared used room [] = tt
whole_cleared used room (h ∷ hs) = (refl, whole_cleared used room hs)

-- ---- what was found

pub and_l : (a b : Bool) → (a && b) ≡ true → a ≡ true
and_l true b e = refl
and_l false b e = e

pub and_r : (a b : Bool) → (a && b) ≡ true → b ≡ true
and_r true b e = e
and_r false b e = absurd (true≢false (sym e))

-- the record found is used for the handle
pub found_used : (row : List Bound) (k : ℕ) → find_of row k < length row → is_used (get_or row (find_of row k) free_record) ≡ true
found_used row k l = and_l (is_used (get_or row (find_of row k) free_record)) (eqb (get_or row (find_of row k) free_record).handle k) (first_is (λ h. is_of h k) row l)

pub found_own : (row : List Bound) (k : ℕ) → find_of row k < length row → (get_or row (find_of row k) free_record).handle ≡ k
found_own row k l = eqb-true (get_or row (find_of row k) free_record).handle k (and_r (is_used (get_or row (find_of row k) free_record)) (eqb (get_or row (find_of row k) free_record).handle k) (first_is (λ h. is_of h k) row l))

-- it breaks no rule, if none does
sound_found : (used room : ℕ) (row : List Bound) (k : ℕ) → find_of row k < length row → Whole used room row
    → (ltb (get_or row (find_of row k) free_record).place used && leb (get_or row (find_of row k) free_record).held_len room) ≡ true
sound_found used room row k l n =
    let g : Bound = get_or row (find_of row k) free_record in
    let off : breaks_of g used room ≡ false = none_at (λ h. breaks_of h used room) row (find_of row k) l n in
    go (leb used g.place) (ltb room g.held_len) refl refl (ap (λ (x : Bool). x && (leb used g.place || ltb room g.held_len)) (sym (found_used row k l)) ∙ off)
  where
    go : (x y : Bool) → leb used (get_or row (find_of row k) free_record).place ≡ x → ltb room (get_or row (find_of row k) free_record).held_len ≡ y → (x || y) ≡ false
        → (ltb (get_or row (find_of row k) free_record).place used && leb (get_or row (find_of row k) free_record).held_len room) ≡ true
    go true y p q e = absurd (true≢false e)
    go false true p q e = absurd (true≢false e)
    go false false p q e =
        (λ i. lt-ltb (get_or row (find_of row k) free_record).place used (leb-false used (get_or row (find_of row k) free_record).place p) i
        && le-leb (get_or row (find_of row k) free_record).held_len room (ltb-false room (get_or row (find_of row k) free_record).held_len q) i)

-- the first place is one of the row, or the length
first_le : (p : Bound → Bool) (row : List Bound) → first_of p row ≤ length row
first_le p [] = omega arith
first_le p (h ∷ hs) = go (p h) (first_le p hs)
  where
    go : (t : Bool) → first_of p hs ≤ length hs → zero_or_next t (first_of p hs) ≤ suc (length hs)
    go true l = omega arith
    go false l = omega arith

read_past : (row : List Bound) (i : ℕ) → length row ≤ i → get_or row i free_record ≡ free_record
read_past [] i l = refl
read_past (h ∷ hs) zero l = absurd (zero_less l)
read_past (h ∷ hs) (suc i) l = read_past hs i (omega arith)

not_less : (i n : ℕ) → not (ltb i n) ≡ leb n i
not_less i n = go (ltb i n) refl
  where
    go : (t : Bool) → ltb i n ≡ t → not t ≡ leb n i
    go true e = sym (lt-leb n i (ltb-true i n e))
    go false e = sym (le-leb n i (ltb-false i n e))

is_placed : (row : List Bound) (i : ℕ) → is_some (place_in row i) ≡ ltb i (length row)
is_placed row i = go (ltb i (length row))
  where
    go : (t : Bool) → is_some (cond t (Some i) prelude.None) ≡ t
    go true = refl
    go false = refl

-- a place at most the length, or else the length
placed_or : (row : List Bound) (i : ℕ) → i ≤ length row → unwrap_or (place_in row i) (length row) ≡ i
placed_or row i l = go (ltb i (length row)) refl
  where
    go : (t : Bool) → ltb i (length row) ≡ t → unwrap_or (cond t (Some i) prelude.None) (length row) ≡ i
    go true e = refl
    go false e =
        let past : length row ≤ i = ltb-false i (length row) e in
        omega arith

module _ (row : List Bound) (k places room : ℕ) {seen : Lookup} (is : SeenOf row k places room seen) where
  abbrev Some_at : Bool → Option Found
  Some_at t = cond t (Some (found_at row (find_of row k))) prelude.None

  -- whether the handle is found
  pub seen_found : is_found seen ≡ ltb (find_of row k) (length row)
  seen_found = ap is_some is.own ∙ go (ltb (find_of row k) (length row))
    where
      go : (t : Bool) → is_some (Some_at t) ≡ t
      go true = refl
      go false = refl

  pub seen_record : own_record seen ≡ get_or row (find_of row k) free_record
  seen_record = ap record_or_free is.own ∙ go (ltb (find_of row k) (length row)) refl
    where
      go : (t : Bool) → ltb (find_of row k) (length row) ≡ t → record_or_free (Some_at t) ≡ get_or row (find_of row k) free_record
      go true e = refl
      go false e = sym (read_past row (find_of row k) (ltb-false (find_of row k) (length row) e))

  pub seen_place : own_place seen ≡ find_of row k
  seen_place = (λ j. at_or (is.own j) (is.len j)) ∙ go (ltb (find_of row k) (length row)) refl
    where
      go : (t : Bool) → ltb (find_of row k) (length row) ≡ t → at_or (Some_at t) (length row) ≡ find_of row k
      go true e = refl
      go false e =
          let past : length row ≤ find_of row k = ltb-false (find_of row k) (length row) e in
          let most : find_of row k ≤ length row = first_le (λ h. is_of h k) row in
          omega arith

  pub seen_free : has_place seen ≡ ltb (free_of row) (length row)
  seen_free = ap is_some is.free ∙ is_placed row (free_of row)

  -- the handle's own place, or the first that is free once the record at `freed` is
  pub seen_spot : (freed : Option ℕ) → spot_of seen freed ≡ cond (ltb (find_of row k) (length row)) (find_of row k) (min (free_of row) (unwrap_or freed (length row)))
  seen_spot freed =
      (λ j. at_or (is.own j) (min (unwrap_or (is.free j) (is.len j)) (unwrap_or freed (is.len j))))
      ∙ ap (λ (n : ℕ). at_or (Some_at (ltb (find_of row k) (length row))) (min n (unwrap_or freed (length row)))) (placed_or row (free_of row) (first_le is_free row))
      ∙ go (ltb (find_of row k) (length row)) (min (free_of row) (unwrap_or freed (length row)))
    where
      go : (t : Bool) (n : ℕ) → at_or (Some_at t) n ≡ cond t (find_of row k) n
      go true n = refl
      go false n = refl

  pub seen_room : (h : List ℕ) → room_in seen h ≡ room_all row h
  seen_room h = ap (room_of (length h)) is.len

  pub seen_lengths : (h : Holds) → lengths_in seen h ≡ lengths_all row h
  seen_lengths h = λ j. record { bytes = seen_room h.bytes j; ends = seen_room h.ends j }

none_long : Lengths
none_long = record { bytes = 0; ends = 0 }

-- where no other handle has the session place p, the handle k is put at its own place, or the first free one: that is what was found, with the place that was freed
pub spot_alone : (row : List Bound) (k p : ℕ) → cond (ltb (find_of row k) (length row)) (find_of row k) (min (free_of row) (unwrap_or (rival_of row k p) (length row))) ≡ spot_for (alone_at row k p) k
spot_alone row k p =
    ap (λ (n : ℕ). cond (ltb (find_of row k) (length row)) (find_of row k) (min (free_of row) n)) (first_or (λ h. is_rival h k p) row)
    ∙ sym (λ j. cond (ltb (finds j) (alone_length (bound_of 1) none_long (λ h y. refl) k p row j)) (finds j) (free_released (bound_of 1) none_long (λ h y. refl) k p row j))
  where
    finds : find_of (alone_at row k p) k ≡ find_of row k
    finds = find_released (bound_of 1) none_long (λ h y. refl) k p row

-- where the rules hold, the row that is stood for keeps the definition's rule
pub allowed_apart : (s : Settings) (c : Replica) (row : List Bound) (w b : List ℕ) (h : Holds) → allowed_all s row w b h.bytes ≡ true → apart (standby_of s c row w b h).handles ≡ true
allowed_apart s c row w b h on =
    sym (rows_apart (bound_of latest) (lengths_all row h) (λ g y. refl) row h)
    ∙ and_l (apart_of row) (leb (length row) (broken_of row (get_or w 0 0) (room_all row h.bytes))) (and_r (allowed s.shape w b) (apart_of row && leb (length row) (broken_of row (get_or w 0 0) (room_all row h.bytes))) on)

-- the rules by what was found are the rules
pub seen_allowed_lem : (s : Settings) (row : List Bound) (k : ℕ) (w b h : List ℕ) {seen : Lookup} → SeenOf row k (get_or w 0 0) (room_all row h) seen → seen_allowed s.shape seen w b h ≡ allowed_all s row w b h
seen_allowed_lem s row k w b h {seen} is =
    (λ j. allowed s.shape w b && (is.apart j && (not (is_some (is.broken j)) && (not (found j) || (ltb (record_is j).place (get_or w 0 0) && leb (record_is j).held_len (room j))))))
    ∙ ap (λ (x : Bool). allowed s.shape w b && (apart_of row && (not x && (not (ltb (find_of row k) (length row)) || (ltb (get_or row (find_of row k) free_record).place (get_or w 0 0) && leb (get_or row (find_of row k) free_record).held_len (room_all row h)))))) (is_placed row (broken_of row (get_or w 0 0) (room_all row h)))
    ∙ ap (λ (x : Bool). allowed s.shape w b && (apart_of row && (x && (not (ltb (find_of row k) (length row)) || (ltb (get_or row (find_of row k) free_record).place (get_or w 0 0) && leb (get_or row (find_of row k) free_record).held_len (room_all row h)))))) (not_less (broken_of row (get_or w 0 0) (room_all row h)) (length row))
    ∙ ap (λ (x : Bool). allowed s.shape w b && (apart_of row && x)) (go (leb (length row) (broken_of row (get_or w 0 0) (room_all row h))) refl)
  where
    found : is_found seen ≡ ltb (find_of row k) (length row)
    found = seen_found row k (get_or w 0 0) (room_all row h) is

    record_is : own_record seen ≡ get_or row (find_of row k) free_record
    record_is = seen_record row k (get_or w 0 0) (room_all row h) is

    room : room_in seen h ≡ room_all row h
    room = seen_room row k (get_or w 0 0) (room_all row h) is h

    one : (x : Bool) → ltb (find_of row k) (length row) ≡ x → Whole (get_or w 0 0) (room_all row h) row
        → (not x || (ltb (get_or row (find_of row k) free_record).place (get_or w 0 0) && leb (get_or row (find_of row k) free_record).held_len (room_all row h))) ≡ true
    one true e n = sound_found (get_or w 0 0) (room_all row h) row k (ltb-true (find_of row k) (length row) e) n
    one false e n = refl

    go : (x : Bool) → leb (length row) (broken_of row (get_or w 0 0) (room_all row h)) ≡ x → (x && (not (ltb (find_of row k) (length row)) || (ltb (get_or row (find_of row k) free_record).place (get_or w 0 0) && leb (get_or row (find_of row k) free_record).held_len (room_all row h)))) ≡ x
    go true e = one (ltb (find_of row k) (length row)) refl (whole_of (get_or w 0 0) (room_all row h) row e)
    go false e = refl

-- ---- what is written stays inside

take_sets : (vs l : List ℕ) (i n : ℕ) → n ≤ i → take n (sets l i vs) ≡ take n l
take_sets [] l i n h = refl
take_sets (v ∷ vs) l i n h = take_sets vs (set l i v) (suc i) n (omega arith) ∙ take-set-le n l i v h

drop_sets : (vs l : List ℕ) (i n : ℕ) → i + length vs ≤ n → drop n (sets l i vs) ≡ drop n l
drop_sets [] l i n h = refl
drop_sets (v ∷ vs) l i n h = drop_sets vs (set l i v) (suc i) n (omega arith) ∙ drop-set-lt n l i v (omega arith)

pub take_write : (l : List ℕ) (i n : ℕ) (vs : List ℕ) → n ≤ i → take n (write l i vs) ≡ take n l
unfolding write
take_write l i n vs h = take_sets vs l i n h

pub drop_write : (l : List ℕ) (i n : ℕ) (vs : List ℕ) → i + length vs ≤ n → drop n (write l i vs) ≡ drop n l
unfolding write
drop_write l i n vs h = drop_sets vs l i n h

-- a word written in the words of one place
module _ (room i : ℕ) (closed : List ℕ) (len : ℕ) (l : List ℕ) where
  pub take_end : take (i * room) (with_end room i closed len l) ≡ take (i * room) l
  take_end = go (ltb (length closed) room)
    where
      go : (t : Bool) → take (i * room) (cond t (set l (i * room + length closed) (end_for (open_from 0 closed) len)) l) ≡ take (i * room) l
      go true = take-set-le (i * room) l (i * room + length closed) (end_for (open_from 0 closed) len) (omega arith)
      go false = refl

  pub drop_end : drop (i * room + room) (with_end room i closed len l) ≡ drop (i * room + room) l
  drop_end = go (ltb (length closed) room) refl
    where
      go : (t : Bool) → ltb (length closed) room ≡ t → drop (i * room + room) (cond t (set l (i * room + length closed) (end_for (open_from 0 closed) len)) l) ≡ drop (i * room + room) l
      go true e = let less : length closed < room = ltb-true (length closed) room e in drop-set-lt (i * room + room) l (i * room + length closed) (end_for (open_from 0 closed) len) (omega arith)
      go false e = refl

  pub end_length : length (with_end room i closed len l) ≡ length l
  end_length = go (ltb (length closed) room)
    where
      go : (t : Bool) → length (cond t (set l (i * room + length closed) (end_for (open_from 0 closed) len)) l) ≡ length l
      go true = length-set l (i * room + length closed) (end_for (open_from 0 closed) len)
      go false = refl
