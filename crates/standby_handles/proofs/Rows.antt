-- What the searches and stores of a lent row are on what it stands for. Assumes nothing.
use mathlib.Core.Path.{◌≡◌, refl, sym, ap, subst, ◌∙◌}
use mathlib.Core.Bool.{Bool, true, false, cond, not, ◌&&◌, true≢false}
use mathlib.Core.List.{List, [], ◌∷◌}
use mathlib.Core.Option.{Option, none, some}
use Prim.Native.Nat.{ℕ, zero, suc, ◌+◌, ◌*◌, ◌<◌, ◌≤◌}
use native.Mathlib.Omega.{arith}
use native.Mathlib.Nat.{zero-mul, suc-mul}
use lib.ListN.{length, get_or, set, take, drop}
use lib.Seq.{drop-drop, take-take}
use lib.Dec.{eqb}
use borrow.Author.Tests.{eqb-true, eqb-false, eq-eqb, ne_eqb}
use Rattle.base_laws.proofs.Lists.{drop_take}
use Rattle.standby_segments.specs.Segments.{Holds, Lengths}
use Rattle.standby_row.specs.declared.Bound.{Bound as BoundRecord}
use Rattle.standby_row.specs.Row.{is_used, is_of, is_free, zero_or_next, find_of, free_of, cleared_all}
use Rattle.standby_row.specs.Row as handles
use Rattle.model_standby.specs.Row.{Row, is_some, freed, has_free, find, replace, fill, put}
use Rattle.model_standby.specs.State.{Bound}
use Rattle.standby_handles.specs.Rows.{first_area, areas_behind, area_at, entry_of, row_of}

pub eqb_comm : (a b : ℕ) → eqb a b ≡ eqb b a
eqb_comm a b = go (eqb a b) refl
  where
    go : (t : Bool) → eqb a b ≡ t → t ≡ eqb b a
    go true h = sym (eq-eqb b a (sym (eqb-true a b h)))
    go false h = sym (ne_eqb b a (λ e. eqb-false a b h (sym e)))

-- ---- one place of a row, by whether it is used and whose it is

module _ (n k : ℕ) (b : Bound) (t : Row Bound) where
  abbrev Head : Bool → Row Bound
  Head u = cond u (some (n, b)) none ∷ t

  find_at : (u : Bool) → (u && eqb n k) ≡ true → find k (Head u) ≡ some b
  find_at true h = ap (λ (x : Bool). cond x (some b) (find k t)) (eqb_comm k n ∙ h)
  find_at false h = absurd (true≢false (sym h))

  find_past : (u : Bool) → (u && eqb n k) ≡ false → find k (Head u) ≡ find k t
  find_past true h = ap (λ (x : Bool). cond x (some b) (find k t)) (eqb_comm k n ∙ h)
  find_past false h = refl

  replace_at : (v : Bound) (u : Bool) → (u && eqb n k) ≡ true → replace k v (Head u) ≡ some (k, v) ∷ t
  replace_at v true h = ap (λ (x : Bool). cond x (some (n, v) ∷ t) (some (n, b) ∷ replace k v t)) (eqb_comm k n ∙ h) ∙ ap (λ (m : ℕ). some (m, v) ∷ t) (eqb-true n k h)
  replace_at v false h = absurd (true≢false (sym h))

  replace_past : (v : Bound) (u : Bool) → (u && eqb n k) ≡ false → replace k v (Head u) ≡ cond u (some (n, b)) none ∷ replace k v t
  replace_past v true h = ap (λ (x : Bool). cond x (some (n, v) ∷ t) (some (n, b) ∷ replace k v t)) (eqb_comm k n ∙ h)
  replace_past v false h = refl

  fill_at : (v : Bound) (u : Bool) → not u ≡ true → fill k v (Head u) ≡ some (k, v) ∷ t
  fill_at v true h = absurd (true≢false (sym h))
  fill_at v false h = refl

  fill_past : (v : Bound) (u : Bool) → not u ≡ false → fill k v (Head u) ≡ cond u (some (n, b)) none ∷ fill k v t
  fill_past v true h = refl
  fill_past v false h = absurd (true≢false h)

  free_at : (u : Bool) → not u ≡ true → has_free (Head u) ≡ true
  free_at true h = absurd (true≢false (sym h))
  free_at false h = refl

  free_past : (u : Bool) → not u ≡ false → has_free (Head u) ≡ has_free t
  free_past true h = refl
  free_past false h = absurd (true≢false h)

-- ---- parts of a list that are as long as one another

module _ (room : ℕ) where
  part_next_in : (i : ℕ) (l : List ℕ) → take room (drop (i * room) (drop room l)) ≡ take room (drop (suc i * room) l)
  part_next_in i l = ap (take room) (drop-drop (i * room) room l) ∙ ap (λ (k : ℕ). take room (drop k l)) sum
    where
      sum : room + i * room ≡ suc i * room
      sum = omega (arith, suc-mul i room)

  -- lists that differ in part i alone
  abbrev PartsApart : ℕ → List ℕ → List ℕ → Type 0
  PartsApart zero a b = drop room b ≡ drop room a
  PartsApart (suc i) a b = (take room b ≡ take room a) × PartsApart i (drop room a) (drop room b)

  -- they are the same before and after it
  parts_apart : (i : ℕ) (a b : List ℕ) → take (i * room) b ≡ take (i * room) a → drop (i * room + room) b ≡ drop (i * room + room) a → PartsApart i a b
  parts_apart zero a b before after =
      let sum : 0 * room + room ≡ room = omega (arith, zero-mul room) in
      subst (λ (k : ℕ). drop k b ≡ drop k a) sum after
  parts_apart (suc i) a b before after =
      let sum : suc i * room ≡ room + i * room = omega (arith, suc-mul i room) in
      let less : room ≤ suc i * room = omega arith in
      let rest : suc i * room + room ≡ room + (i * room + room) = omega arith in (
        sym (take-take room (suc i * room) b less) ∙ ap (take room) before ∙ take-take room (suc i * room) a less,
        parts_apart i (drop room a) (drop room b)
            (sym (drop_take room (i * room) b) ∙ ap (drop room) (subst (λ (k : ℕ). take k b ≡ take k a) sum before) ∙ drop_take room (i * room) a)
            (drop-drop (i * room + room) room b ∙ subst (λ (k : ℕ). drop k b ≡ drop k a) rest after ∙ sym (drop-drop (i * room + room) room a)),
      )

-- ---- rows

module _ (bound_of : BoundRecord → Holds → Bound) (room : Lengths) where
  abbrev First : Holds → Holds
  First holds = first_area room holds

  abbrev Rest : Holds → Holds
  Rest holds = areas_behind room holds

  abbrev Entries : List BoundRecord → Holds → Row Bound
  Entries row holds = row_of bound_of room row holds

  abbrev Part : ℕ → Holds → Holds
  Part i holds = area_at room i holds

  part_first : (holds : Holds) → Part 0 holds ≡ First holds
  part_first holds = λ j. record { bytes = take room.bytes (drop (zero-mul room.bytes j) holds.bytes); ends = take room.ends (drop (zero-mul room.ends j) holds.ends) }

  -- the area of the next place
  part_next : (i : ℕ) (holds : Holds) → Part i (Rest holds) ≡ Part (suc i) holds
  part_next i holds = λ j. record { bytes = part_next_in room.bytes i holds.bytes j; ends = part_next_in room.ends i holds.ends j }

  -- ---- a handle's record

  pub find_hit : (k : ℕ) (row : List BoundRecord) (holds : Holds) → find_of row k < length row
      → find k (Entries row holds) ≡ some (bound_of (get_or row (find_of row k) handles.free_record) (Part (find_of row k) holds))
  find_hit k [] holds less = absurd (no less)
    where
      no : 0 < 0 → ⊥
      no h = omega arith
  find_hit k (h ∷ hs) holds less = go (is_of h k) refl (find_hit k hs (Rest holds)) less
    where
      go : (p : Bool) → is_of h k ≡ p → (find_of hs k < length hs → find k (Entries hs (Rest holds)) ≡ some (bound_of (get_or hs (find_of hs k) handles.free_record) (Part (find_of hs k) (Rest holds))))
          → zero_or_next p (find_of hs k) < suc (length hs)
          → find k (Entries (h ∷ hs) holds) ≡ some (bound_of (get_or (h ∷ hs) (zero_or_next p (find_of hs k)) handles.free_record) (Part (zero_or_next p (find_of hs k)) holds))
      go true e ih l =
          find_at h.handle k (bound_of h (First holds)) (Entries hs (Rest holds)) (is_used h) e
          ∙ ap (λ (x : Holds). some (bound_of h x)) (sym (part_first holds))
      go false e ih l =
          find_past h.handle k (bound_of h (First holds)) (Entries hs (Rest holds)) (is_used h) e ∙ ih (omega arith)
          ∙ ap (λ (x : Holds). some (bound_of (get_or hs (find_of hs k) handles.free_record) x)) (part_next (find_of hs k) holds)

  pub find_miss : (k : ℕ) (row : List BoundRecord) (holds : Holds) → length row ≤ find_of row k → find k (Entries row holds) ≡ none
  find_miss k [] holds out = refl
  find_miss k (h ∷ hs) holds out = go (is_of h k) refl (find_miss k hs (Rest holds)) out
    where
      go : (p : Bool) → is_of h k ≡ p → (length hs ≤ find_of hs k → find k (Entries hs (Rest holds)) ≡ none) → suc (length hs) ≤ zero_or_next p (find_of hs k) → find k (Entries (h ∷ hs) holds) ≡ none
      go true e ih l = absurd (no l)
        where
          no : suc (length hs) ≤ 0 → ⊥
          no l = omega arith
      go false e ih l = find_past h.handle k (bound_of h (First holds)) (Entries hs (Rest holds)) (is_used h) e ∙ ih (omega arith)

  -- ---- free places

  pub free_hit : (row : List BoundRecord) (holds : Holds) → free_of row < length row → has_free (Entries row holds) ≡ true
  free_hit [] holds less = absurd (no less)
    where
      no : 0 < 0 → ⊥
      no h = omega arith
  free_hit (h ∷ hs) holds less = go (is_free h) refl (free_hit hs (Rest holds)) less
    where
      go : (p : Bool) → is_free h ≡ p → (free_of hs < length hs → has_free (Entries hs (Rest holds)) ≡ true) → zero_or_next p (free_of hs) < suc (length hs) → has_free (Entries (h ∷ hs) holds) ≡ true
      go true e ih l = free_at h.handle 0 (bound_of h (First holds)) (Entries hs (Rest holds)) (is_used h) e
      go false e ih l = free_past h.handle 0 (bound_of h (First holds)) (Entries hs (Rest holds)) (is_used h) e ∙ ih (omega arith)

  pub free_miss : (row : List BoundRecord) (holds : Holds) → length row ≤ free_of row → has_free (Entries row holds) ≡ false
  free_miss [] holds out = refl
  free_miss (h ∷ hs) holds out = go (is_free h) refl (free_miss hs (Rest holds)) out
    where
      go : (p : Bool) → is_free h ≡ p → (length hs ≤ free_of hs → has_free (Entries hs (Rest holds)) ≡ false) → suc (length hs) ≤ zero_or_next p (free_of hs) → has_free (Entries (h ∷ hs) holds) ≡ false
      go true e ih l = absurd (no l)
        where
          no : suc (length hs) ≤ 0 → ⊥
          no l = omega arith
      go false e ih l = free_past h.handle 0 (bound_of h (First holds)) (Entries hs (Rest holds)) (is_used h) e ∙ ih (omega arith)

  pub all_freed : (row : List BoundRecord) (holds : Holds) → Entries (cleared_all row) holds ≡ freed (Entries row holds)
  all_freed [] holds = refl
  all_freed (h ∷ hs) holds = ap (λ (t : Row Bound). none ∷ t) (all_freed hs (Rest holds))

  -- ---- a record is set, and the hold areas of the other places stay

  -- hold areas that differ in that of place i alone
  abbrev pub Apart : ℕ → Holds → Holds → Type 0
  Apart zero a b = Rest b ≡ Rest a
  Apart (suc i) a b = (First b ≡ First a) × Apart i (Rest a) (Rest b)

  pub apart_same : (i : ℕ) (a : Holds) → Apart i a a
  apart_same zero a = refl
  apart_same (suc i) a = (refl, apart_same i (Rest a))

  both_apart : (i : ℕ) (a b : Holds) → PartsApart room.bytes i a.bytes b.bytes → PartsApart room.ends i a.ends b.ends → Apart i a b
  both_apart zero a b p q = λ j. record { bytes = p j; ends = q j }
  both_apart (suc i) a b p q = (λ j. record { bytes = p.0 j; ends = q.0 j }, both_apart i (Rest a) (Rest b) p.1 q.1)

  -- they are the same before and after it
  pub apart_of : (i : ℕ) (a b : Holds) → take (i * room.bytes) b.bytes ≡ take (i * room.bytes) a.bytes → drop (i * room.bytes + room.bytes) b.bytes ≡ drop (i * room.bytes + room.bytes) a.bytes
      → take (i * room.ends) b.ends ≡ take (i * room.ends) a.ends → drop (i * room.ends + room.ends) b.ends ≡ drop (i * room.ends + room.ends) a.ends → Apart i a b
  apart_of i a b before after before' after' = both_apart i a b (parts_apart room.bytes i a.bytes b.bytes before after) (parts_apart room.ends i a.ends b.ends before' after')

  -- the record at place i is used for k
  module _ (k : ℕ) (g : BoundRecord) (used : is_used g ≡ true) (is : g.handle ≡ k) where
    abbrev At : ℕ → Holds → Option (ℕ × Bound)
    At i holds = some (k, bound_of g (Part i holds))

    put_entry : (part : Holds) → entry_of bound_of room g part ≡ some (k, bound_of g part)
    put_entry part = ap (λ (u : Bool). cond u (some (g.handle, bound_of g part)) none) used ∙ ap (λ (m : ℕ). some (m, bound_of g part)) is

    replaced : (row : List BoundRecord) (a b : Holds) → find_of row k < length row → Apart (find_of row k) a b
        → Entries (set row (find_of row k) g) b ≡ replace k (bound_of g (Part (find_of row k) b)) (Entries row a)
    replaced [] a b less apart = refl
    replaced (h ∷ hs) a b less apart = go (is_of h k) refl (replaced hs (Rest a) (Rest b)) less apart
      where
        go : (p : Bool) → is_of h k ≡ p
            → (find_of hs k < length hs → Apart (find_of hs k) (Rest a) (Rest b)
            → Entries (set hs (find_of hs k) g) (Rest b) ≡ replace k (bound_of g (Part (find_of hs k) (Rest b))) (Entries hs (Rest a)))
            → zero_or_next p (find_of hs k) < suc (length hs) → Apart (zero_or_next p (find_of hs k)) a b
            → Entries (set (h ∷ hs) (zero_or_next p (find_of hs k)) g) b ≡ replace k (bound_of g (Part (zero_or_next p (find_of hs k)) b)) (Entries (h ∷ hs) a)
        go true e ih l apart =
            ap (λ (x : Option (ℕ × Bound)). x ∷ Entries hs (Rest b)) (put_entry (First b))
            ∙ ap (λ (x : Holds). some (k, bound_of g (First b)) ∷ Entries hs x) apart
            ∙ ap (λ (x : Holds). some (k, bound_of g x) ∷ Entries hs (Rest a)) (sym (part_first b))
            ∙ sym (replace_at h.handle k (bound_of h (First a)) (Entries hs (Rest a)) (bound_of g (Part 0 b)) (is_used h) e)
        go false e ih l apart =
            ap (λ (x : Holds). entry_of bound_of room h x ∷ Entries (set hs (find_of hs k) g) (Rest b)) apart.0
            ∙ ap (λ (t : Row Bound). entry_of bound_of room h (First a) ∷ t) (ih (omega arith) apart.1)
            ∙ ap (λ (x : Holds). entry_of bound_of room h (First a) ∷ replace k (bound_of g x) (Entries hs (Rest a))) (part_next (find_of hs k) b)
            ∙ sym (replace_past h.handle k (bound_of h (First a)) (Entries hs (Rest a)) (bound_of g (Part (suc (find_of hs k)) b)) (is_used h) e)

    filled : (row : List BoundRecord) (a : Holds) → free_of row < length row → Entries (set row (free_of row) g) a ≡ fill k (bound_of g (Part (free_of row) a)) (Entries row a)
    filled [] a less = refl
    filled (h ∷ hs) a less = go (is_free h) refl (filled hs (Rest a)) less
      where
        go : (p : Bool) → is_free h ≡ p
            → (free_of hs < length hs → Entries (set hs (free_of hs) g) (Rest a) ≡ fill k (bound_of g (Part (free_of hs) (Rest a))) (Entries hs (Rest a)))
            → zero_or_next p (free_of hs) < suc (length hs) → Entries (set (h ∷ hs) (zero_or_next p (free_of hs)) g) a ≡ fill k (bound_of g (Part (zero_or_next p (free_of hs)) a)) (Entries (h ∷ hs) a)
        go true e ih l =
            ap (λ (x : Option (ℕ × Bound)). x ∷ Entries hs (Rest a)) (put_entry (First a))
            ∙ ap (λ (x : Holds). some (k, bound_of g x) ∷ Entries hs (Rest a)) (sym (part_first a))
            ∙ sym (fill_at h.handle k (bound_of h (First a)) (Entries hs (Rest a)) (bound_of g (Part 0 a)) (is_used h) e)
        go false e ih l =
            ap (λ (t : Row Bound). entry_of bound_of room h (First a) ∷ t) (ih (omega arith))
            ∙ ap (λ (x : Holds). entry_of bound_of room h (First a) ∷ fill k (bound_of g x) (Entries hs (Rest a))) (part_next (free_of hs) a)
            ∙ sym (fill_past h.handle k (bound_of h (First a)) (Entries hs (Rest a)) (bound_of g (Part (suc (free_of hs)) a)) (is_used h) e)

    -- at its own place; at the first free one
    pub put_own : (row : List BoundRecord) (a b : Holds) → find_of row k < length row → Apart (find_of row k) a b
        → Entries (set row (find_of row k) g) b ≡ put k (bound_of g (Part (find_of row k) b)) (Entries row a)
    unfolding put
    put_own row a b less apart =
        replaced row a b less apart
        ∙ ap (λ (x : Bool). cond x (replace k (bound_of g (Part (find_of row k) b)) (Entries row a)) (fill k (bound_of g (Part (find_of row k) b)) (Entries row a))) (sym (ap is_some (find_hit k row a less)))

    pub put_new : (row : List BoundRecord) (a : Holds) → length row ≤ find_of row k → free_of row < length row
        → Entries (set row (free_of row) g) a ≡ put k (bound_of g (Part (free_of row) a)) (Entries row a)
    unfolding put
    put_new row a out less =
        filled row a less
        ∙ ap (λ (x : Bool). cond x (replace k (bound_of g (Part (free_of row) a)) (Entries row a)) (fill k (bound_of g (Part (free_of row) a)) (Entries row a))) (sym (ap is_some (find_miss k row a out)))
