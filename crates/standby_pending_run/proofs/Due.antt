-- The tests of the pending commits. Assumes nothing.
use mathlib.Core.Path.{◌≡◌, refl, sym, ap, ◌∙◌}
use mathlib.Core.Bool.{Bool, true, not, ◌||◌}
use mathlib.Core.List.{List, [], ◌∷◌, map}
use Prim.Native.Nat.{ℕ, zero, suc, ◌≤◌, ◌<◌}
use native.Mathlib.Omega.{arith}
use borrow.Author.Tests.{le-leb, lt-leb, ne_eqb}
use lib.Dec.{leb, eqb}
use lib.ListN.{length, take, drop, length-drop, length-map}
use lib.Seq.{length-take-le}
use Rattle.model_frame.specs.Parse.{is_empty}
use Rattle.model_standby.specs.Standby.{pends_on}
use Rattle.standby_pending.specs.Pending.{count_of, commit_of, pending_of}

-- how many are pending
pub many_pending : (w : List ℕ) → 66 ≤ length w → count_of w ≤ 64 → length (pending_of w) ≡ count_of w
unfolding pending_of
many_pending w h k =
    let inside : count_of w ≤ length (drop 2 w) = omega (arith, length-drop 2 w) in
    length-map (take (count_of w) (drop 2 w)) commit_of ∙ length-take-le (count_of w) (drop 2 w) inside

-- the answer of `is_pending`
pub some_pending : (w : List ℕ) → 66 ≤ length w → not (eqb (count_of w) 0) ≡ not (is_empty (pending_of w))
unfolding pending_of
some_pending w h = go (count_of w) (drop 2 w) (omega (arith, length-drop 2 w))
  where
    go : (n : ℕ) (l : List ℕ) → 0 < length l → not (eqb n 0) ≡ not (is_empty (map commit_of (take n l)))
    go zero l k = refl
    go (suc n) [] k = absurd (omega arith)
    go (suc n) (x ∷ l) k = ap not (ne_eqb (suc n) 0 (λ e. omega arith))

-- the two cases of `is_due_batch`
pub full : (w : List ℕ) (handle : ℕ) → 66 ≤ length w → count_of w ≤ 64 → 64 ≤ count_of w → true ≡ (leb 64 (length (pending_of w)) || pends_on handle (pending_of w))
full w handle h k e = sym (ap (λ (t : Bool). t || pends_on handle (pending_of w)) (le-leb 64 (length (pending_of w)) (omega (arith, many_pending w h k))))

pub not_full : (w : List ℕ) (handle : ℕ) → 66 ≤ length w → count_of w < 64 → pends_on handle (pending_of w) ≡ (leb 64 (length (pending_of w)) || pends_on handle (pending_of w))
not_full w handle h e =
    let m : length (pending_of w) ≡ count_of w = many_pending w h (omega arith) in
    sym (ap (λ (t : Bool). t || pends_on handle (pending_of w)) (lt-leb 64 (length (pending_of w)) (omega arith)))
