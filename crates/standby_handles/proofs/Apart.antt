-- One handle for a session: what the rule of a lent row, the release of a record and the room for a handle are on what the row stands for. Assumes nothing.
use mathlib.Core.Path.{◌≡◌, refl, sym, ap, ◌∙◌}
use mathlib.Core.Bool.{Bool, true, false, cond, not, ◌&&◌, ◌||◌, true≢false}
use mathlib.Core.List.{List, [], ◌∷◌}
use mathlib.Core.Option.{Option, none, some}
use Prim.Native.Nat.{ℕ, zero, suc, ◌<◌, ◌≤◌, min}
use native.Mathlib.Omega.{arith}
use lib.ListN.{length, set}
use lib.Dec.{eqb, ltb}
use borrow.Author.Tests.{eqb-true, lt-ltb, le-ltb, ltb-true, ltb-false}
use Rattle.std.specs.Prelude.{Some, None}
use Rattle.std.specs.Prelude as std
use Rattle.std.specs.List.{list_any}
use Rattle.standby_segments.specs.Segments.{Holds, Lengths}
use Rattle.standby_row.specs.declared.Bound.{Bound as BoundRecord}
use Rattle.standby_row.specs.Row.{is_used, is_of, is_free, zero_or_next, first_of, find_of, free_of, place_in, own_of, clashes, apart_of, is_rival, rival_at, rival_of, released_at, released, alone_at, spot_for}
use Rattle.standby_row.specs.Row as handles
use Rattle.model_standby.specs.Row.{Row, is_some, has_free, has_room, find, put}
use Rattle.model_standby.specs.State.{Bound}
use Rattle.model_standby.specs.Handles.{apart, without_others, room_at}
use Rattle.model_standby.specs.Handles as model
use Rattle.model_standby.proofs.Handles.{own_stays}
use Rattle.standby_handles.specs.Rows.{first_area, areas_behind, area_at, row_of}
use Rattle.standby_handles.proofs.Rows.{eqb_comm, find_miss, free_miss, apart_same, put_own, put_new}

-- a record is used, and names the session place p
abbrev names_place : BoundRecord → ℕ → Bool
names_place h p = is_used h && eqb h.place p

-- ---- searches, by whether some record is such

ltb_suc : (m n : ℕ) → ltb (suc m) (suc n) ≡ ltb m n
ltb_suc m n = go (ltb m n) refl
  where
    go : (t : Bool) → ltb m n ≡ t → ltb (suc m) (suc n) ≡ t
    go true e = let less : m < n = ltb-true m n e in lt-ltb (suc m) (suc n) (omega arith)
    go false e = let over : n ≤ m = ltb-false m n e in le-ltb (suc m) (suc n) (omega arith)

pub there_is : (p : BoundRecord → Bool) (hs : List BoundRecord) → ltb (first_of p hs) (length hs) ≡ list_any p hs
there_is p [] = refl
there_is p (h ∷ hs) = go (p h) (there_is p hs)
  where
    go : (t : Bool) → ltb (first_of p hs) (length hs) ≡ list_any p hs → ltb (zero_or_next t (first_of p hs)) (suc (length hs)) ≡ (t || list_any p hs)
    go true e = lt-ltb 0 (suc (length hs)) (omega arith)
    go false e = ltb_suc (first_of p hs) (length hs) ∙ e

pub is_there : {A : Type 0} (t : Bool) (x : A) → std.is_some (cond t (Some x) None) ≡ t
is_there true x = refl
is_there false x = refl

pub found_some : (p : BoundRecord → Bool) (hs : List BoundRecord) → std.is_some (place_in hs (first_of p hs)) ≡ list_any p hs
found_some p hs = is_there (ltb (first_of p hs) (length hs)) (first_of p hs) ∙ there_is p hs

-- the place of the first such record, or the length
first_most : (p : BoundRecord → Bool) (hs : List BoundRecord) → first_of p hs ≤ length hs
first_most p [] = omega arith
first_most p (h ∷ hs) = go (p h) (first_most p hs)
  where
    go : (t : Bool) → first_of p hs ≤ length hs → zero_or_next t (first_of p hs) ≤ suc (length hs)
    go true l = omega arith
    go false l = omega arith

pub first_or : (p : BoundRecord → Bool) (hs : List BoundRecord) → std.unwrap_or (place_in hs (first_of p hs)) (length hs) ≡ first_of p hs
first_or p hs = go (ltb (first_of p hs) (length hs)) refl
  where
    go : (t : Bool) → ltb (first_of p hs) (length hs) ≡ t → std.unwrap_or (cond t (Some (first_of p hs)) None) (length hs) ≡ first_of p hs
    go true e = refl
    go false e = let over : length hs ≤ first_of p hs = ltb-false (first_of p hs) (length hs) e in let most : first_of p hs ≤ length hs = first_most p hs in omega arith

module _ (bound_of : BoundRecord → Holds → Bound) (room : Lengths) (placed : (h : BoundRecord) (part : Holds) → (bound_of h part).place ≡ h.place) where
  abbrev First : Holds → Holds
  First holds = first_area room holds

  abbrev Rest : Holds → Holds
  Rest holds = areas_behind room holds

  abbrev Entries : List BoundRecord → Holds → Row Bound
  Entries row holds = row_of bound_of room row holds

  -- what a record stands for, by whether it is used
  abbrev Head : BoundRecord → Holds → Bool → Option (ℕ × Bound)
  Head h part u = cond u (some (h.handle, bound_of h part)) none

  -- ---- the rule

  pub handle_same : (k : ℕ) (row : List BoundRecord) (holds : Holds) → list_any (λ x. is_of x k) row ≡ is_some (find k (Entries row holds))
  handle_same k [] holds = refl
  handle_same k (h ∷ hs) holds = go (is_used h) (eqb k h.handle) refl (handle_same k hs (Rest holds))
    where
      go : (u v : Bool) → eqb k h.handle ≡ v → list_any (λ x. is_of x k) hs ≡ is_some (find k (Entries hs (Rest holds)))
          → ((u && eqb h.handle k) || list_any (λ x. is_of x k) hs) ≡ is_some (find k (Head h (First holds) u ∷ Entries hs (Rest holds)))
      go false v q ih = ih
      go true true q ih = rw (eqb_comm h.handle k, q) refl
      go true false q ih = rw (eqb_comm h.handle k, q) ih

  pub place_same : (p : ℕ) (row : List BoundRecord) (holds : Holds) → list_any (λ x. names_place x p) row ≡ model.names_place p (Entries row holds)
  place_same p [] holds = refl
  place_same p (h ∷ hs) holds = go (is_used h) (place_same p hs (Rest holds))
    where
      go : (u : Bool) → list_any (λ x. names_place x p) hs ≡ model.names_place p (Entries hs (Rest holds))
          → ((u && eqb h.place p) || list_any (λ x. names_place x p) hs) ≡ model.names_place p (Head h (First holds) u ∷ Entries hs (Rest holds))
      go false ih = ih
      go true ih = rw (placed h (First holds), eqb_comm h.place p, ih) refl

  -- a record clashes with a later one: both are used, and for one handle or for one session place
  clash_split : (h : BoundRecord) (row : List BoundRecord) → list_any (clashes h) row ≡ (is_used h && (list_any (λ x. is_of x h.handle) row || list_any (λ x. names_place x h.place) row))
  clash_split h [] = nothing (is_used h)
    where
      nothing : (u : Bool) → false ≡ (u && false)
      nothing true = refl
      nothing false = refl
  clash_split h (g ∷ gs) = go (is_used h) (is_used g) (eqb h.handle g.handle) (eqb h.place g.place) refl refl (clash_split h gs)
    where
      join : (u v a b A B : Bool) → ((u && (v && (a || b))) || (u && (A || B))) ≡ (u && (((v && a) || A) || ((v && b) || B)))
      join false v a b A B = refl
      join true false a b A B = refl
      join true true true b A B = refl
      join true true false true true B = refl
      join true true false true false B = refl
      join true true false false A B = refl

      go : (u v a b : Bool) → eqb h.handle g.handle ≡ a → eqb h.place g.place ≡ b
          → list_any (clashes h) gs ≡ (u && (list_any (λ x. is_of x h.handle) gs || list_any (λ x. names_place x h.place) gs))
          → ((u && (v && (eqb h.handle g.handle || eqb h.place g.place))) || list_any (clashes h) gs)
          ≡ (u && (((v && eqb g.handle h.handle) || list_any (λ x. is_of x h.handle) gs) || ((v && eqb g.place h.place) || list_any (λ x. names_place x h.place) gs)))
      go u v a b q r ih =
          rw (eqb_comm g.handle h.handle, eqb_comm g.place h.place, q, r, ih) (join u v a b (list_any (λ x. is_of x h.handle) gs) (list_any (λ x. names_place x h.place) gs))

  apart_split : (h : BoundRecord) (hs : List BoundRecord)
      → apart_of (h ∷ hs) ≡ (not (is_used h && (list_any (λ x. is_of x h.handle) hs || list_any (λ x. names_place x h.place) hs)) && apart_of hs)
  apart_split h hs = ap (λ (x : Bool). not x && apart_of hs) (clash_split h hs)

  pub rows_apart : (row : List BoundRecord) (holds : Holds) → apart_of row ≡ apart (Entries row holds)
  rows_apart [] holds = refl
  rows_apart (h ∷ hs) holds = apart_split h hs ∙ go (is_used h) (rows_apart hs (Rest holds)) (handle_same h.handle hs (Rest holds)) (place_same h.place hs (Rest holds))
    where
      go : (u : Bool) → apart_of hs ≡ apart (Entries hs (Rest holds))
          → list_any (λ x. is_of x h.handle) hs ≡ is_some (find h.handle (Entries hs (Rest holds)))
          → list_any (λ x. names_place x h.place) hs ≡ model.names_place h.place (Entries hs (Rest holds))
          → (not (u && (list_any (λ x. is_of x h.handle) hs || list_any (λ x. names_place x h.place) hs)) && apart_of hs) ≡ apart (Head h (First holds) u ∷ Entries hs (Rest holds))
      go false ih a b = ih
      go true ih a b = rw (placed h (First holds), a, b, ih) refl

  -- ---- the room for a handle

  own_same : (k : ℕ) (row : List BoundRecord) (holds : Holds) → is_some (find k (Entries row holds)) ≡ std.is_some (own_of row k)
  own_same k row holds = sym (handle_same k row holds) ∙ sym (there_is (λ x. is_of x k) row) ∙ sym (is_there (ltb (find_of row k) (length row)) (handles.found_at row (find_of row k)))

  free_same : (k p : ℕ) (row : List BoundRecord) (holds : Holds)
      → has_free (without_others k p (Entries row holds)) ≡ (list_any is_free row || list_any (λ x. is_rival x k p) row)
  free_same k p [] holds = refl
  free_same k p (h ∷ hs) holds = go (is_used h) (eqb k h.handle) (eqb p h.place) refl refl (free_same k p hs (Rest holds))
    where
      left : (a b : Bool) → true ≡ (a || (true || b))
      left true b = refl
      left false b = refl

      go : (u v w : Bool) → eqb k h.handle ≡ v → eqb p h.place ≡ w → has_free (without_others k p (Entries hs (Rest holds))) ≡ (list_any is_free hs || list_any (λ x. is_rival x k p) hs)
          → has_free (without_others k p (Head h (First holds) u ∷ Entries hs (Rest holds)))
          ≡ ((not u || list_any is_free hs) || ((u && (not (eqb h.handle k) && eqb h.place p)) || list_any (λ x. is_rival x k p) hs))
      go false v w q r ih = refl
      go true true w q r ih = rw (placed h (First holds), eqb_comm h.handle k, q) ih
      go true false true q r ih = rw (placed h (First holds), eqb_comm h.place p, eqb_comm h.handle k, q, r) (left (list_any is_free hs) (list_any (λ x. is_rival x k p) hs))
      go true false false q r ih = rw (placed h (First holds), eqb_comm h.place p, eqb_comm h.handle k, q, r) ih

  -- it is there: the handle's own place, a free one, or a rival's
  pub room_same : (k p : ℕ) (row : List BoundRecord) (holds : Holds)
      → room_at k (Entries row holds) p ≡ (std.is_some (own_of row k) || (std.is_some (place_in row (free_of row)) || std.is_some (rival_of row k p)))
  room_same k p row holds =
      rw (own_stays k p (Entries row holds), own_same k row holds, free_same k p row holds, found_some is_free row, found_some (λ x. is_rival x k p) row) refl

  -- ---- the rival's record is released

  -- none names the session place: all stay
  none_named : (k p : ℕ) (t : Row Bound) → model.names_place p t ≡ false → without_others k p t ≡ t
  none_named k p [] e = refl
  none_named k p (none ∷ t) e = ap (λ (x : Row Bound). none ∷ x) (none_named k p t e)
  none_named k p (some e ∷ t) f = go (eqb k e.0) (eqb p e.1.place) f (none_named k p t)
    where
      go : (u v : Bool) → (v || model.names_place p t) ≡ false → (model.names_place p t ≡ false → without_others k p t ≡ t) → cond (not u && v) none (some e) ∷ without_others k p t ≡ some e ∷ t
      go u true f ih = absurd (true≢false f)
      go true false f ih = ap (λ (x : Row Bound). some e ∷ x) (ih f)
      go false false f ih = ap (λ (x : Row Bound). some e ∷ x) (ih f)

  -- the records after a used one, in a row that is apart: they are apart, and none names its session place
  rest_apart : (u a b r : Bool) → (not (u && (a || b)) && r) ≡ true → r ≡ true
  rest_apart false a b r e = e
  rest_apart true true b r e = absurd (true≢false (sym e))
  rest_apart true false true r e = absurd (true≢false (sym e))
  rest_apart true false false r e = e

  rest_unnamed : (u a b r : Bool) → u ≡ true → (not (u && (a || b)) && r) ≡ true → b ≡ false
  rest_unnamed false a b r u e = absurd (true≢false (sym u))
  rest_unnamed true true b r u e = absurd (true≢false (sym e))
  rest_unnamed true false true r u e = absurd (true≢false (sym e))
  rest_unnamed true false false r u e = refl

  -- a record that is a rival's is used, names the session place, and is another's
  pub record Rival (h : BoundRecord) (k p : ℕ) : Type 0 where
    pub used : is_used h ≡ true
    pub place : eqb h.place p ≡ true
    pub other : eqb h.handle k ≡ false

  rival_is : (h : BoundRecord) (k p : ℕ) → is_rival h k p ≡ true → Rival h k p
  rival_is h k p e = go (is_used h) (eqb h.place p) (eqb h.handle k) refl refl refl e
    where
      go : (u v w : Bool) → is_used h ≡ u → eqb h.place p ≡ v → eqb h.handle k ≡ w → (u && (not w && v)) ≡ true → Rival h k p
      go true true false a b c e = record { used = a; place = b; other = c }
      go true true true a b c e = absurd (true≢false (sym e))
      go true false true a b c e = absurd (true≢false (sym e))
      go true false false a b c e = absurd (true≢false (sym e))
      go false v w a b c e = absurd (true≢false (sym e))

  released_past : (i : ℕ) (row : List BoundRecord) → length row ≤ i → released_at i row ≡ row
  released_past i [] l = refl
  released_past zero (h ∷ hs) l = absurd (no l)
    where
      no : suc (length hs) ≤ 0 → ⊥
      no l = omega arith
  released_past (suc i) (h ∷ hs) l = let less : length hs ≤ i = omega arith in ap (λ (x : List BoundRecord). h ∷ x) (released_past i hs less)

  -- the first of them, if there is one
  pub first_released : (i : ℕ) (row : List BoundRecord) → released (place_in row i) row ≡ released_at i row
  first_released i row = go (ltb i (length row)) refl
    where
      go : (t : Bool) → ltb i (length row) ≡ t → released (cond t (Some i) None) row ≡ released_at i row
      go true e = refl
      go false e = sym (released_past i row (ltb-false i (length row) e))

  pub released_length : (i : ℕ) (row : List BoundRecord) → length (released_at i row) ≡ length row
  released_length i [] = refl
  released_length zero (h ∷ hs) = refl
  released_length (suc i) (h ∷ hs) = ap suc (released_length i hs)

  module _ (k p : ℕ) where
    abbrev pub rival_first : List BoundRecord → ℕ
    rival_first row = rival_at row k p

    abbrev Alone : List BoundRecord → List BoundRecord
    Alone row = alone_at row k p

    alone_is : (row : List BoundRecord) → Alone row ≡ released_at (rival_first row) row
    alone_is row = first_released (rival_first row) row

    pub alone_length : (row : List BoundRecord) → length (Alone row) ≡ length row
    alone_length row = ap (λ (x : List BoundRecord). length x) (alone_is row) ∙ released_length (rival_first row) row

    released_rows : (row : List BoundRecord) (holds : Holds) → apart_of row ≡ true → Entries (released_at (rival_first row) row) holds ≡ without_others k p (Entries row holds)
    released_rows [] holds a = refl
    released_rows (h ∷ hs) holds a =
        go (is_rival h k p) refl (released_rows hs (Rest holds) (rest_apart (is_used h) (list_any (λ x. is_of x h.handle) hs) (list_any (λ x. names_place x h.place) hs) (apart_of hs) split))
      where
        split : (not (is_used h && (list_any (λ x. is_of x h.handle) hs || list_any (λ x. names_place x h.place) hs)) && apart_of hs) ≡ true
        split = sym (apart_split h hs) ∙ a

        part : Holds
        part = First holds

        t : Row Bound
        t = Entries hs (Rest holds)

        gone : Rival h k p → without_others k p (Head h part (is_used h) ∷ t) ≡ none ∷ t
        gone r =
            let unnamed : model.names_place h.place t ≡ false
            = sym (place_same h.place hs (Rest holds)) ∙ rest_unnamed (is_used h) (list_any (λ x. is_of x h.handle) hs) (list_any (λ x. names_place x h.place) hs) (apart_of hs) r.used split in
            let here : without_others k p t ≡ t = none_named k p t (ap (λ (n : ℕ). model.names_place n t) (sym (eqb-true h.place p r.place)) ∙ unnamed) in
            ap (λ (u : Bool). without_others k p (Head h part u ∷ t)) r.used
            ∙ rw (placed h part, eqb_comm k h.handle, eqb_comm p h.place, r.other, r.place, here) refl

        stays : (u v w : Bool) → eqb h.place p ≡ v → eqb h.handle k ≡ w → (u && (not w && v)) ≡ false → without_others k p (Head h part u ∷ t) ≡ Head h part u ∷ without_others k p t
        stays false v w b c e = refl
        stays true true true b c e = rw (placed h part, eqb_comm k h.handle, eqb_comm p h.place, b, c) refl
        stays true true false b c e = absurd (true≢false e)
        stays true false true b c e = rw (placed h part, eqb_comm k h.handle, eqb_comm p h.place, b, c) refl
        stays true false false b c e = rw (placed h part, eqb_comm k h.handle, eqb_comm p h.place, b, c) refl

        go : (q : Bool) → is_rival h k p ≡ q → Entries (released_at (rival_first hs) hs) (Rest holds) ≡ without_others k p t
            → Entries (released_at (zero_or_next q (rival_first hs)) (h ∷ hs)) holds ≡ without_others k p (Head h part (is_used h) ∷ t)
        go true e ih = sym (gone (rival_is h k p e))
        go false e ih = ap (λ (x : Row Bound). Head h part (is_used h) ∷ x) ih ∙ sym (stays (is_used h) (eqb h.place p) (eqb h.handle k) refl refl e)

    pub rows_released : (row : List BoundRecord) (holds : Holds) → apart_of row ≡ true → Entries (Alone row) holds ≡ without_others k p (Entries row holds)
    rows_released row holds a = ap (λ (x : List BoundRecord). Entries x holds) (alone_is row) ∙ released_rows row holds a

    -- ---- what is found in it

    released_find : (row : List BoundRecord) → find_of (released_at (rival_first row) row) k ≡ find_of row k
    released_find [] = refl
    released_find (h ∷ hs) = go (is_rival h k p) refl (released_find hs)
      where
        others : (u : Bool) → eqb h.handle k ≡ false → (u && eqb h.handle k) ≡ false
        others true e = e
        others false e = refl

        go : (q : Bool) → is_rival h k p ≡ q → find_of (released_at (rival_first hs) hs) k ≡ find_of hs k → find_of (released_at (zero_or_next q (rival_first hs)) (h ∷ hs)) k ≡ find_of (h ∷ hs) k
        go true e ih = ap (λ (x : Bool). zero_or_next x (find_of hs k)) (sym (others (is_used h) ((rival_is h k p e).other)))
        go false e ih = ap (λ (n : ℕ). zero_or_next (is_of h k) n) ih

    pub find_released : (row : List BoundRecord) → find_of (Alone row) k ≡ find_of row k
    find_released row = ap (λ (x : List BoundRecord). find_of x k) (alone_is row) ∙ released_find row

    released_free : (row : List BoundRecord) → free_of (released_at (rival_first row) row) ≡ min (free_of row) (rival_first row)
    released_free [] = refl
    released_free (h ∷ hs) = go (is_rival h k p) refl (released_free hs)
      where
        next : (f : Bool) (x a b : ℕ) → x ≡ min a b → zero_or_next f x ≡ min (zero_or_next f a) (suc b)
        next true x a b e = omega arith
        next false x a b e = omega (arith, e)

        go : (q : Bool) → is_rival h k p ≡ q → free_of (released_at (rival_first hs) hs) ≡ min (free_of hs) (rival_first hs)
            → free_of (released_at (zero_or_next q (rival_first hs)) (h ∷ hs)) ≡ min (free_of (h ∷ hs)) (zero_or_next q (rival_first hs))
        go true e ih = none_left (free_of (h ∷ hs))
          where
            none_left : (n : ℕ) → 0 ≡ min n 0
            none_left n = omega arith
        go false e ih = next (is_free h) (free_of (released_at (rival_first hs) hs)) (free_of hs) (rival_first hs) ih

    pub free_released : (row : List BoundRecord) → free_of (Alone row) ≡ min (free_of row) (rival_first row)
    free_released row = ap (λ (x : List BoundRecord). free_of x) (alone_is row) ∙ released_free row

    -- ---- a handle is bound anew, and no other has its session place
    module _ (g : BoundRecord) (used : is_used g ≡ true) (is : g.handle ≡ k) (row : List BoundRecord) (holds : Holds) (a : apart_of row ≡ true) (has : room_at k (Entries row holds) p ≡ true) where
      has_free_place : length (Alone row) ≤ find_of (Alone row) k → free_of (Alone row) < length (Alone row)
      has_free_place out = go (ltb (free_of (Alone row)) (length (Alone row))) refl
        where
          full : has_room k (Entries (Alone row) holds) ≡ true
          full = ap (λ (x : Row Bound). has_room k x) (rows_released row holds a) ∙ has

          go : (t : Bool) → ltb (free_of (Alone row)) (length (Alone row)) ≡ t → free_of (Alone row) < length (Alone row)
          go true e = ltb-true (free_of (Alone row)) (length (Alone row)) e
          go false e =
              absurd (true≢false (sym full
              ∙ ap (λ (x : Option Bound). is_some x || has_free (Entries (Alone row) holds)) (find_miss bound_of room k (Alone row) holds out)
              ∙ free_miss bound_of room (Alone row) holds (ltb-false (free_of (Alone row)) (length (Alone row)) e)))

      pub put_alone : Entries (set (Alone row) (spot_for (Alone row) k) g) holds ≡ put k (bound_of g (area_at room (spot_for (Alone row) k) holds)) (without_others k p (Entries row holds))
      put_alone = go (ltb (find_of (Alone row) k) (length (Alone row))) refl ∙ ap (λ (x : Row Bound). put k (bound_of g (area_at room (spot_for (Alone row) k) holds)) x) (rows_released row holds a)
        where
          At : Bool → ℕ
          At t = cond t (find_of (Alone row) k) (free_of (Alone row))

          go : (t : Bool) → ltb (find_of (Alone row) k) (length (Alone row)) ≡ t → Entries (set (Alone row) (At t) g) holds ≡ put k (bound_of g (area_at room (At t) holds)) (Entries (Alone row) holds)
          go true e =
              put_own bound_of room k g used is (Alone row) holds holds (ltb-true (find_of (Alone row) k) (length (Alone row)) e) (apart_same bound_of room (find_of (Alone row) k) holds)
          go false e = let out : length (Alone row) ≤ find_of (Alone row) k = ltb-false (find_of (Alone row) k) (length (Alone row)) e in put_new bound_of room k g used is (Alone row) holds out (has_free_place out)
