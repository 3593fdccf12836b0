-- What the functions over a row of handles say: each is a definition on lists of the records.
-- Assumes nothing.
use Rattle.std.specs.Prelude.{ℕ, zero, suc, Bool, true, false, cond, not, ◌&&◌, ◌||◌, List, [], ◌∷◌, map, eqb, leb, ltb, length, get_or, set, ◌≡◌, Option, Some, None, is_some}
use Rattle.std.specs.List.{list_any}
use Rattle.base_flags.specs.Flag.{is_set}
use Rattle.standby_row.specs.declared.Bound.{Bound}
use Rattle.standby_row.specs.declared.lookup.Found.{Found}
use Rattle.standby_row.specs.declared.lookup.Lookup.{Lookup}

-- what is read past the end of a row
abbrev pub free_record : Bound
free_record = record { used = 0; handle = 0; place = 0; commit_no = record { 0 = 0 }; held_len = 0; held_bytes = 0 }

-- a record is used, by any value of its byte but 0; it is used for the handle k; it is free; it is used, and breaks the rules for places and held lengths
abbrev pub is_used : Bound → Bool
is_used h = is_set h.used

abbrev pub is_of : Bound → ℕ → Bool
is_of h k = is_used h && eqb h.handle k

abbrev pub is_free : Bound → Bool
is_free h = not (is_used h)

abbrev pub breaks_of : Bound → ℕ → ℕ → Bool
breaks_of h places room = is_used h && (leb places h.place || ltb room h.held_len)

-- one more where the head is not the one
abbrev pub zero_or_next : Bool → ℕ → ℕ
zero_or_next true n = 0
zero_or_next false n = suc n

-- the place of the first record of which p holds, or the length
abbrev pub first_of : (Bound → Bool) → List Bound → ℕ
first_of p [] = 0
first_of p (h ∷ hs) = zero_or_next (p h) (first_of p hs)

abbrev pub find_of : List Bound → ℕ → ℕ
find_of hs k = first_of (λ h. is_of h k) hs

abbrev pub free_of : List Bound → ℕ
free_of hs = first_of is_free hs

abbrev pub broken_of : List Bound → ℕ → ℕ → ℕ
broken_of hs places room = first_of (λ h. breaks_of h places room) hs

-- the first record that is used for another handle than k and names the place p
abbrev pub is_rival : Bound → ℕ → ℕ → Bool
is_rival h k p = is_used h && (not (eqb h.handle k) && eqb h.place p)

abbrev pub rival_at : List Bound → ℕ → ℕ → ℕ
rival_at hs k p = first_of (λ h. is_rival h k p) hs

-- two records are used, and for one handle or for one place
abbrev pub clashes : Bound → Bound → Bool
clashes g h = is_used g && (is_used h && (eqb g.handle h.handle || eqb g.place h.place))

-- no two used records have one handle, and no two name one place
abbrev pub apart_of : List Bound → Bool
apart_of [] = true
apart_of (h ∷ hs) = not (list_any (clashes h) hs) && apart_of hs

-- the same record, free
abbrev pub cleared : Bound → Bound
cleared h = record { used = 0; handle = h.handle; place = h.place; commit_no = h.commit_no; held_len = h.held_len; held_bytes = h.held_bytes }

abbrev pub cleared_all : List Bound → List Bound
cleared_all hs = map cleared hs

-- the row whose records from i on are free
abbrev pub cleared_from : ℕ → List Bound → List Bound
cleared_from zero hs = cleared_all hs
cleared_from (suc i) [] = []
cleared_from (suc i) (h ∷ hs) = h ∷ cleared_from i hs

-- the row whose record at i is free
abbrev pub released_at : ℕ → List Bound → List Bound
released_at i hs = set hs i (cleared (get_or hs i free_record))

-- the same, if a place is named
abbrev pub released : Option ℕ → List Bound → List Bound
released None hs = hs
released (Some i) hs = released_at i hs

-- a place of the row, if there is one
abbrev pub place_in : List Bound → ℕ → Option ℕ
place_in hs i = cond (ltb i (length hs)) (Some i) None

abbrev pub found_at : List Bound → ℕ → Found
found_at hs i = record { at = i; bound = get_or hs i free_record }

-- the first record that is used for a handle, with its place
abbrev pub found_in : List Bound → ℕ → Option Found
found_in hs i = cond (ltb i (length hs)) (Some (found_at hs i)) None

abbrev pub own_of : List Bound → ℕ → Option Found
own_of hs k = found_in hs (find_of hs k)

abbrev pub rival_of : List Bound → ℕ → ℕ → Option ℕ
rival_of hs k p = place_in hs (rival_at hs k p)

-- the row in which no other handle than k has the session place p: the record of one that names it is free, and keeps its other fields
abbrev pub alone_at : List Bound → ℕ → ℕ → List Bound
alone_at hs k p = released (rival_of hs k p) hs

-- the place for a handle: its own, or the first free one
abbrev pub spot_for : List Bound → ℕ → ℕ
spot_for hs k = cond (ltb (find_of hs k) (length hs)) (find_of hs k) (free_of hs)

-- all that is found for a handle: its place and record, the first free place, the first whose record breaks the rules, whether the records are apart, the length
pub record SeenOf (hs : List Bound) (k places room : ℕ) (seen : Lookup) : Type 0 where
  pub own : seen.own ≡ own_of hs k
  pub free : seen.free ≡ place_in hs (free_of hs)
  pub broken : seen.broken ≡ place_in hs (broken_of hs places room)
  pub apart : seen.apart ≡ apart_of hs
  pub len : seen.len ≡ length hs

-- ---- what was found, and what stands for none

-- the record's place, or the number n where none was found
abbrev pub at_or : Option Found → ℕ → ℕ
at_or None n = n
at_or (Some f) n = f.at

-- the record, or a free one where none was found
abbrev pub record_or_free : Option Found → Bound
record_or_free None = free_record
record_or_free (Some f) = f.bound

-- the handle's place, or the length; its record, or a free one; whether a place is free
abbrev pub own_place : Lookup → ℕ
own_place seen = at_or seen.own seen.len

abbrev pub own_record : Lookup → Bound
own_record seen = record_or_free seen.own

abbrev pub has_place : Lookup → Bool
has_place seen = is_some seen.free
