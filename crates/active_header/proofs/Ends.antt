-- What stands before the messages of a whole sending, and after them. Assumes nothing.
use mathlib.Core.Path.{◌≡◌, refl}
use mathlib.Core.List.{List, [], ◌∷◌, ◌++◌, append-nil}
use Prim.Native.Nat.{ℕ, zero, suc, ◌+◌, ◌≤◌, ◌<◌}
use native.Mathlib.Omega.{arith}
use lib.ListN.{length}
use Rattle.model_frame.specs.Frame.{Change, reset, set_created_at, set_marks}
use Rattle.model_frame.specs.Parse.{run_bytes}
use Rattle.model_frame.specs.Writing.{blob_bytes, change_bytes}
use Rattle.model_frame.specs.Sizes.{size_of, sizes}
use Rattle.model_frame.proofs.Runs.{run_append, sizes_append}
use Rattle.model_frame.proofs.Sizes.{change_size, changes_size}
use Rattle.model_session.specs.Whole.{skip_to}
use Rattle.base_bytes.specs.declared.writer.Writer.{Writer}
use Rattle.base_bytes.specs.Put.{Put}
use Rattle.base_bytes.proofs.Puts.{put_on}
use Rattle.active_messages.proofs.Putting.{put_none}
use Rattle.active_header.specs.Ends.{opening_of}

no : 0 < 0 → ⊥
no h = omega arith

-- ---- before

pub open_none : (st : List ℕ) (from : ℕ) → 0 < from → opening_of st from ≡ []
open_none st zero h = absurd (no h)
open_none st (suc n) h = refl

pub open_bare : (st : List ℕ) (from : ℕ) → from ≤ 0 → length st ≡ 0 → opening_of st from ≡ reset ∷ []
open_bare [] zero h e = refl
open_bare (x ∷ xs) zero h e = absurd (never e)
  where
    never : suc (length xs) ≡ 0 → ⊥
    never e = omega arith
open_bare st (suc n) h e = absurd (never h)
  where
    never : suc n ≤ 0 → ⊥
    never e = omega arith

pub open_stamped : (st : List ℕ) (from : ℕ) → from ≤ 0 → (length st ≡ 0 → ⊥) → opening_of st from ≡ reset ∷ set_created_at st ∷ []
open_stamped [] zero h e = absurd (e refl)
open_stamped (x ∷ xs) zero h e = refl
open_stamped st (suc n) h e = absurd (never h)
  where
    never : suc n ≤ 0 → ⊥
    never e = omega arith

pub put_open_none : (w : Writer) (st : List ℕ) (from : ℕ) → 0 < from → Put w (run_bytes change_bytes (opening_of st from)) w
unfolding run_bytes
put_open_none w st from h = rw (open_none st from h) (put_none w)

pub put_open_bare : (st : List ℕ) (from : ℕ) {w v : Writer} → from ≤ 0 → length st ≡ 0 → Put w (6 ∷ []) v → Put w (run_bytes change_bytes (opening_of st from)) v
unfolding run_bytes change_bytes
put_open_bare st from h e p = rw (open_bare st from h e) p

pub put_open_stamped : (st : List ℕ) (from : ℕ) {w v u : Writer} → from ≤ 0 → (length st ≡ 0 → ⊥) → Put w (6 ∷ []) v → Put v (7 ∷ blob_bytes st) u → Put w (run_bytes change_bytes (opening_of st from)) u
unfolding run_bytes change_bytes
put_open_stamped st from h e p q = rw (open_stamped st from h e, append-nil (7 ∷ blob_bytes st)) (put_on p q)

-- ---- after

pub close_size : (next n : ℕ) (inc : Change) (marks : List ℕ) → sizes (skip_to next n ++ (inc ∷ set_marks marks ∷ [])) ≡ sizes (skip_to next n) + size_of inc + 5 + length marks
close_size next n inc marks = omega (arith, sizes_append (skip_to next n) (inc ∷ set_marks marks ∷ []))

-- where a run of changes, and one change, end
pub run_past : (cs : List Change) {w v : Writer} → Put w (run_bytes change_bytes cs) v → v.at ≡ w.at + sizes cs
run_past cs p = omega (arith, p.wrote.past, changes_size cs)

pub change_past : (c : Change) {w v : Writer} → Put w (change_bytes c) v → v.at ≡ w.at + size_of c
change_past c p = omega (arith, p.wrote.past, change_size c)

pub put_close : (cs : List Change) (inc : Change) (marks : List ℕ) {w v u t : Writer} → Put w (run_bytes change_bytes cs) v → Put v (change_bytes inc) u → Put u (8 ∷ blob_bytes marks) t
    → Put w (run_bytes change_bytes (cs ++ (inc ∷ set_marks marks ∷ []))) t
unfolding run_bytes change_bytes
put_close cs inc marks {w} {v} {u} {t} p q r =
    let last : Put v (run_bytes change_bytes (inc ∷ set_marks marks ∷ [])) t = rw (append-nil (8 ∷ blob_bytes marks)) (put_on q r) in
    rw (run_append change_bytes cs (inc ∷ set_marks marks ∷ [])) (put_on p last)

pub put_no_changes : (w : Writer) → Put w (run_bytes change_bytes []) w
unfolding run_bytes
put_no_changes w = put_none w
