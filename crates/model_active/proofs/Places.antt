-- Who was met keeps the place; who falls behind, alone or together, stands where the papers say. Assumes nothing.
use mathlib.Core.Path.{◌≡◌, refl, sym, ap, subst, ◌∙◌}
use mathlib.Core.Bool.{Bool, true, false, cond, not, ◌&&◌, ◌||◌, true≢false}
use mathlib.Core.List.{List, [], ◌∷◌, ◌++◌, append_assoc}
use Prim.Native.Nat.{ℕ, zero, suc, ◌+◌, ◌<◌, ◌≤◌}
use native.Mathlib.Omega.{arith}
use lib.ListN.{length, get_or}
use lib.Dec.{eqb, ltb}
use borrow.Author.Tests.{eqb-true}
use Rattle.model_active.specs.CatchUp.{Entry, Book, Call, Result, too_many, member, without, joining, falling, sessions, meeting, on_entry, compared_with, met_that, named, met_now, behind_now, does, step, fall_behind, caught_up}
use Rattle.model_active.specs.Passes.{All, Once, SoundBook, all_joining}
use Rattle.model_active.proofs.Lists.{tt0, eqb_swap, member_snoc, or_none_left, or_none_right}
use Rattle.model_active.proofs.Books.{sessions_meeting, sessions_on_entry, length_sessions, does_sessions, step_sound}
use Rattle.model_active.proofs.Ending.{step_met, gone}

-- ---- met

front : (xs : List ℕ) (y k : ℕ) → k < length xs → get_or (xs ++ (y ∷ [])) k 0 ≡ get_or xs k 0
front [] y k h = absurd (let z : ⊥ = omega arith in z)
front (x ∷ xs) y zero h = refl
front (x ∷ xs) y (suc k) h = front xs y k (omega arith)

longer : (s : ℕ) (xs : List ℕ) → length xs ≤ length (joining s xs)
longer s xs = go (member s xs)
  where
    end : (ys : List ℕ) → length ys ≤ length (ys ++ (s ∷ []))
    end [] = omega arith
    end (y ∷ ys) = omega (arith, end ys)

    go : (b : Bool) → length xs ≤ length (cond b xs (xs ++ (s ∷ [])))
    go true = omega arith
    go false = end xs

joined_front : (s : ℕ) (xs : List ℕ) (k : ℕ) → k < length xs → get_or (joining s xs) k 0 ≡ get_or xs k 0
joined_front s xs k h = go (member s xs)
  where
    go : (b : Bool) → get_or (cond b xs (xs ++ (s ∷ []))) k 0 ≡ get_or xs k 0
    go true = refl
    go false = front xs s k h

all_front : (l xs : List ℕ) (k : ℕ) → k < length xs → get_or (all_joining l xs) k 0 ≡ get_or xs k 0
all_front [] xs k h = refl
all_front (s ∷ l) xs k h = all_front l (joining s xs) k (omega (arith, h, longer s xs)) ∙ joined_front s xs k h

pub keeps_place : (b : Book) (c : Call) (k : ℕ) → k < length b.met → get_or (sessions (step b c).book.met) k 0 ≡ get_or (sessions b.met) k 0
unfolding step
keeps_place b c k h = go (ltb 256 (length (does m c).book.met) || ltb 256 (length (does m c).book.behind))
  where
    m : Book
    m = met_now b (meeting (named c) b.met)

    go : (full : Bool) → get_or (sessions (cond {A = Result} full (record { book = b; answer = too_many }) (does m c)).book.met) k 0 ≡ get_or (sessions b.met) k 0
    go true = refl
    go false =
        ap (λ (l : List ℕ). get_or l k 0) (does_sessions m c ∙ sessions_meeting (named c) b.met)
        ∙ all_front (named c) (sessions b.met) k (omega (arith, h, length_sessions b.met))

-- ---- together

-- none of those left is the one that fell: who is behind is for them as it was
alike : (p : Entry → Bool) (s : ℕ) (xs : List ℕ) (es : List Entry) → member s (sessions es) ≡ false
    → met_that (λ e. p e && not (member e.session (xs ++ (s ∷ [])))) es ≡ met_that (λ e. p e && not (member e.session xs)) es
alike p s xs [] n = refl
alike p s xs (e ∷ es) n =
    let apart : eqb e.session s ≡ false = eqb_swap e.session s ∙ or_none_left (eqb s e.session) (member s (sessions es)) n in
    let same : member e.session (xs ++ (s ∷ [])) ≡ member e.session xs = member_snoc e.session s xs ∙ ap (λ (b : Bool). member e.session xs || b) apart ∙ or_false (member e.session xs) in
    let rest = alike p s xs es (or_none_right (eqb s e.session) (member s (sessions es)) n) in
    λ j. cond (p e && not (same j)) (e.session ∷ rest j) (rest j)
  where
    or_false : (b : Bool) → (b || false) ≡ b
    or_false true = refl
    or_false false = refl

one_by_one : (p : Entry → Bool) (xs : List ℕ) (es : List Entry) → Once (sessions es) → xs ++ met_that (λ e. p e && not (member e.session xs)) es ≡ all_joining (met_that p es) xs
one_by_one p xs [] o = append_nil xs
  where
    append_nil : (l : List ℕ) → l ++ [] ≡ l
    append_nil [] = refl
    append_nil (x ∷ l) = ap (λ (z : List ℕ). x ∷ z) (append_nil l)
one_by_one p xs (e ∷ es) o =
    go (p e) (member e.session xs) refl (one_by_one p xs es o.1)
    (sym (append_assoc xs (e.session ∷ []) (rest xs)) ∙ ap (λ (l : List ℕ). (xs ++ (e.session ∷ [])) ++ l) (sym (alike p e.session xs es o.0)) ∙ one_by_one p (xs ++ (e.session ∷ [])) es o.1)
  where
    rest : List ℕ → List ℕ
    rest ys = met_that (λ x. p x && not (member x.session ys)) es

    go : (a b : Bool) → member e.session xs ≡ b → xs ++ rest xs ≡ all_joining (met_that p es) xs → xs ++ (e.session ∷ rest xs) ≡ all_joining (met_that p es) (xs ++ (e.session ∷ []))
        → xs ++ cond (a && not b) (e.session ∷ rest xs) (rest xs) ≡ all_joining (cond a (e.session ∷ met_that p es) (met_that p es)) xs
    go true true m q r = q ∙ ap (λ (t : Bool). all_joining (met_that p es) (cond t xs (xs ++ (e.session ∷ [])))) (sym m)
    go true false m q r = r ∙ ap (λ (t : Bool). all_joining (met_that p es) (cond t xs (xs ++ (e.session ∷ [])))) (sym m)
    go false b m q r = q

pub together_as_met : (b : Book) (p : Entry → Bool) → SoundBook b → b.behind ++ falling p b ≡ all_joining (met_that p b.met) b.behind
together_as_met b p s = one_by_one p b.behind b.met s.met_once

-- ---- one at a time

pub all_at : (P : ℕ → Type 0) (xs : List ℕ) (s : ℕ) → All P xs → member s xs ≡ true → P s
all_at P [] s a e = absurd (true≢false (sym e))
all_at P (x ∷ xs) s a e = go (eqb s x) refl e (all_at P xs s a.1)
  where
    go : (b : Bool) → eqb s x ≡ b → (b || member s xs) ≡ true → (member s xs ≡ true → P s) → P s
    go true q r f = subst P (sym (eqb-true s x q)) a.0
    go false q r f = f r

pub behind_already : (b : Book) (s : ℕ) → SoundBook b → member s b.behind ≡ true → (step b (fall_behind s)).book.behind ≡ b.behind
behind_already b s sd e =
    let met = all_at (λ t. member t (sessions b.met) ≡ true) b.behind s sd.behind_met e in
    ap (λ (r : Result). r.book.behind) (step_met b (fall_behind s) sd (met, tt0)) ∙ ap (λ (t : Bool). cond t b.behind (b.behind ++ (s ∷ []))) e

pub again_last : (b : Book) (s i : ℕ) → SoundBook b → member s b.behind ≡ true → (step (step b (caught_up s i)).book (fall_behind s)).book.behind ≡ without s b.behind ++ (s ∷ [])
again_last b s i sd e =
    let met = all_at (λ t. member t (sessions b.met) ≡ true) b.behind s sd.behind_met e in
    let up : Book = behind_now (met_now b (on_entry s (compared_with i) b.met)) (without s b.behind) in
    let one = step_met b (caught_up s i) sd (met, tt0) in
    let sound : SoundBook up = subst (λ (x : Result). SoundBook x.book) one (step_sound b (caught_up s i) sd) in
    let met₂ : member s (sessions up.met) ≡ true = ap (member s) (sessions_on_entry s (compared_with i) b.met (λ x. refl)) ∙ met in
    ap (λ (x : Result). (step x.book (fall_behind s)).book.behind) one ∙ ap (λ (x : Result). x.book.behind) (step_met up (fall_behind s) sound (met₂, tt0))
    ∙ ap (λ (t : Bool). cond t (without s b.behind) (without s b.behind ++ (s ∷ []))) (gone s b.behind)
