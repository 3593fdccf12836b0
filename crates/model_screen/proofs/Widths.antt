-- How long lines of parts are. Assumes nothing.
use Rattle.std.proofs.Common.{◌≡◌, ℕ, suc, ◌+◌, ◌*◌, ◌≤◌, Bool, true, false, cond, ◌&&◌, eqb, leb, ltb, List, [], ◌∷◌, ◌++◌, length, map, take, refl, sym, ap, subst, arith, append_assoc, length-append, length-take, le-leb, leb-true, ne_eqb, eqb-true, zero-add}
use borrow.Author.Tests.{clash}
use native.Mathlib.Numerals.{unary_clauses}
use Rattle.model_frame.specs.Frame.{Decoded}
use Rattle.model_standby.specs.Store.{Place}
use Rattle.model_screen.specs.SessionText.{session_lines, session_text}
use Rattle.model_screen.specs.FrameText.{frame_parts, frame_line}
use Rattle.model_screen.specs.Columns.{visible, shown, has_room, break_before, column_after, flow, lines, within}

pub map_length : (f : ℕ → ℕ) (l : List ℕ) → length (map f l) ≡ length l
map_length f [] = refl
map_length f (a ∷ l) = ap suc (map_length f l)

pub shown_short : (p : List ℕ) → length (shown p) ≤ 77
shown_short p = omega (arith, map_length visible (take 77 p), length-take 77 p)

break_short : (column n : ℕ) → length (break_before column n) ≤ 4
break_short column n = go (eqb column 0) (has_room column n)
  where
    go : (t u : Bool) → length {A = ℕ} (cond t [] (cond u (32 ∷ []) (10 ∷ 32 ∷ 32 ∷ 32 ∷ []))) ≤ 4
    go true u = omega arith
    go false true = omega arith
    go false false = omega arith

pub flow_short : (column : ℕ) (ps : List (List ℕ)) → length (flow column ps) ≤ 81 * length ps + 1
unfolding flow
flow_short column [] = omega arith
flow_short column (p ∷ ps) =
    let n : ℕ = length (shown p) in
    let rest : List ℕ = flow (column_after column n) ps in
    omega (arith, length-append (break_before column n ++ shown p) rest, length-append (break_before column n) (shown p), break_short column n, shown_short p, flow_short (column_after column n) ps)

-- ---- no line has more than 80 columns

both : (x y : Bool) → (x && y) ≡ true → (x ≡ true) × (y ≡ true)
both true true e = (refl, refl)
both true false e = (refl, e)
both false y e = (e, absurd (clash e))

no_feed : (b : ℕ) → eqb (visible b) 10 ≡ false
no_feed b = go (leb 32 b && ltb b 127) refl
  where
    go : (t : Bool) → (leb 32 b && ltb b 127) ≡ t → eqb (cond t b 46) 10 ≡ false
    go true e = ne_eqb b 10 (λ q. omega (arith, q, leb-true 32 b (both (leb 32 b) (ltb b 127) e).0))
    go false e = refl

along : (column : ℕ) (p rest : List ℕ) → column + length p ≤ 80 → within (column + length p) rest ≡ true → within column (map visible p ++ rest) ≡ true
along column [] rest h r = simp unary_clauses at r
along column (b ∷ p) rest h r =
    rw (no_feed b, le-leb (suc column) 80 (omega (arith, h))) (along (suc column) p rest (omega (arith, h)) (subst (λ (k : ℕ). within k rest ≡ true) (omega arith) r))

-- a line's parts from a column on, and what follows the line
flow_within : (column : ℕ) (ps : List (List ℕ)) (rest : List ℕ) → column ≤ 80 → within 0 rest ≡ true → within column (flow column ps ++ rest) ≡ true
unfolding flow
flow_within column [] rest h r = r
flow_within column (p ∷ ps) rest h r =
    rw (append_assoc (break_before column n ++ s) (flow (column_after column n) ps) rest, append_assoc (break_before column n) s (flow (column_after column n) ps ++ rest))
    (go (λ k l. flow_within k ps rest l r) (eqb column 0) (has_room column n) refl refl)
  where
    s : List ℕ
    s = shown p

    n : ℕ
    n = length (shown p)

    size : length (take 77 p) ≡ n
    size = sym (map_length visible (take 77 p))

    -- the part from a column on, where it has room
    there : ((k : ℕ) → k ≤ 80 → within k (flow k ps ++ rest) ≡ true) → (k : ℕ) → k + n ≤ 80 → within k (s ++ (flow (k + n) ps ++ rest)) ≡ true
    there ih k l = along k (take 77 p) (flow (k + n) ps ++ rest) (omega (arith, l, size)) (subst (λ (m : ℕ). within m (flow (k + n) ps ++ rest) ≡ true) (omega (arith, size)) (ih (k + n) l))

    go : ((k : ℕ) → k ≤ 80 → within k (flow k ps ++ rest) ≡ true) → (t u : Bool) → eqb column 0 ≡ t → has_room column n ≡ u
        → within column (cond t [] (cond u (32 ∷ []) (10 ∷ 32 ∷ 32 ∷ 32 ∷ [])) ++ (s ++ (flow (cond t n (cond u (column + 1 + n) (3 + n))) ps ++ rest))) ≡ true
    go ih true u e f =
        let at : column ≡ 0 = eqb-true column 0 e in
        let start : within 0 (s ++ (flow (0 + n) ps ++ rest)) ≡ true = there ih 0 (omega (arith, shown_short p)) in
        rw at (subst (λ (k : ℕ). within 0 (s ++ (flow k ps ++ rest)) ≡ true) (zero-add n) start)
    go ih false true e f =
        let room : column + 1 + n ≤ 80 = leb-true (column + 1 + n) 80 f in
        rw (le-leb (suc column) 80 (omega (arith, room))) (subst (λ (k : ℕ). within k (s ++ (flow (column + 1 + n) ps ++ rest)) ≡ true) (omega arith) (there ih (column + 1) room))
    go ih false false e f = there ih 3 (omega (arith, shown_short p))

pub lines_within : (pss : List (List (List ℕ))) → within 0 (lines pss) ≡ true
lines_within [] = refl
lines_within (ps ∷ pss) = flow_within 0 ps (lines pss) (omega arith) (lines_within pss)

-- what is shown of a session, whatever it holds, and of a frame
pub session_within : (i : ℕ) (x : Place) → within 0 (session_text i x) ≡ true
unfolding session_text
session_within i x = lines_within (session_lines i x)

pub frame_within : (n at refusal : ℕ) (d r : Decoded) → within 0 (frame_line n at d refusal r) ≡ true
unfolding frame_line
frame_within n at refusal d r = lines_within (frame_parts n at d refusal r ∷ [])
