-- Requests in document 02's words, computed: which messages are listed with which sets, and the refusals. Assumes nothing.
use mathlib.Core.Path.{◌≡◌, refl}
use Prim.Native.Nat.{ℕ}
use mathlib.Core.List.{List, [], ◌∷◌, ◌++◌, map}
use lib.ListN.{replicate, length}
use Rattle.model_session.specs.Session.{Msg, stored_bytes}
use Rattle.model_resend.specs.Resend.{Range, Served, set_of, listed, served, refusal_of}

abbrev range : ℕ → ℕ → Range
range first last = record { first = first; last = last }

-- the stored messages 1, 3 (an empty one), 4 and 7, of 1, 0, 2 and 3 bytes
abbrev stored : List Msg
stored =
    record { num = 1; text = 65 ∷ [] }
    ∷ record { num = 3; text = [] }
    ∷ record { num = 4; text = 65 ∷ 66 ∷ [] }
    ∷ record { num = 7; text = 65 ∷ 66 ∷ 67 ∷ [] }
    ∷ []

abbrev shown : Served → ℕ × ℕ
shown x = (x.message.num, x.set)

abbrev answers : List Range → List (ℕ × ℕ)
answers rs = map shown (served rs stored)

abbrev requests : List (List Range)
requests =
    []
    ∷ (range 1 0 ∷ [])
    ∷ (range 3 3 ∷ [])
    ∷ (range 1 3 ∷ range 4 7 ∷ [])
    ∷ (range 1 7 ∷ range 3 4 ∷ [])
    ∷ (range 4 4 ∷ range 4 4 ∷ [])
    ∷ (range 7 0 ∷ range 1 1 ∷ range 2 4 ∷ [])
    ∷ (range 8 0 ∷ range 5 6 ∷ [])
    ∷ (range 4 18446744073709551615 ∷ [])
    ∷ []

-- none; all; first = last; ranges that touch; one in another; the same twice; unsorted; none stored there; to the greatest number
listed_so :
    map answers requests
    ≡ []
    ∷ ((1, 1) ∷ (3, 1) ∷ (4, 1) ∷ (7, 1) ∷ [])
    ∷ ((3, 1) ∷ [])
    ∷ ((1, 1) ∷ (3, 1) ∷ (4, 2) ∷ (7, 2) ∷ [])
    ∷ ((1, 1) ∷ (3, 3) ∷ (4, 3) ∷ (7, 1) ∷ [])
    ∷ ((4, 3) ∷ [])
    ∷ ((1, 2) ∷ (3, 4) ∷ (4, 4) ∷ (7, 1) ∷ [])
    ∷ []
    ∷ ((4, 1) ∷ (7, 1) ∷ [])
    ∷ []
listed_so = refl

-- all 64 bits; bit 63 alone
sets_so : set_of (replicate 64 (range 1 0)) 5 ∷ set_of (replicate 63 (range 9 9) ++ (range 5 5 ∷ [])) 5 ∷ [] ≡ 18446744073709551615 ∷ 9223372036854775808 ∷ []
sets_so = refl

abbrev sums : List Range → List ℕ
sums rs = length (listed rs stored) ∷ stored_bytes (listed rs stored) ∷ []

-- the list's length and the sum of its messages' bytes
sums_so : sums (range 3 4 ∷ []) ++ sums (range 1 0 ∷ []) ≡ 2 ∷ 2 ∷ 4 ∷ 6 ∷ []
sums_so = refl

abbrev refusals : List ℕ
refusals =
    refusal_of (replicate 64 (range 9 9)) stored 0
    ∷ refusal_of (replicate 65 (range 9 9)) stored 9
    ∷ refusal_of (range 0 3 ∷ []) stored 9
    ∷ refusal_of (range 4 3 ∷ []) stored 9
    ∷ refusal_of (range 4 3 ∷ range 1 0 ∷ []) stored 0
    ∷ refusal_of (range 1 0 ∷ []) stored 3
    ∷ refusal_of (range 1 0 ∷ []) stored 4
    ∷ refusal_of [] stored 0
    ∷ []

-- 64 ranges and 65; a first of 0; a last below its first, also before 36; one entry too few, just enough; no range into no entries
refusals_so : refusals ≡ 0 ∷ 35 ∷ 35 ∷ 35 ∷ 35 ∷ 36 ∷ 0 ∷ 0 ∷ []
refusals_so = refl
