-- Who is next, and whether Checked is told: the searches, and the calls they serve. Assumes nothing.
use mathlib.Core.Path.{◌≡◌, refl, sym, ap, subst, ◌∙◌}
use mathlib.Core.Bool.{Bool, true, false, cond, not, ◌&&◌, ◌||◌, true≢false}
use mathlib.Core.List.{List, [], ◌∷◌, ◌++◌}
use mathlib.Core.Option.{Option, some}
use Prim.Native.Nat.{ℕ, ◌<◌}
use native.Mathlib.Omega.{arith}
use lib.ListN.{length, get_or}
use lib.Dec.{eqb, ltb}
use borrow.Author.Tests.{lt-ltb, le-ltb, eq-eqb, ne_eqb, eqb-true}
use Rattle.model_active.proofs.Places.{all_at}
use Rattle.model_active.specs.CatchUp.{member, compared_of, is_open, is, first_of, is_none, could_pick, pick, all_with, told_checked}
use Rattle.active_books_area.specs.Words.{word_at, option_of, book_of}
use Rattle.active_books_area.specs.Parts.{At, FindsMet}
use Rattle.std.specs.Prelude.{Some, None, MatchOption, find}
use Rattle.std.specs.Prelude as maybe
use Rattle.std.specs.List.{list_all}
use Rattle.active_books_area.proofs.Area.{absent, opens_at, length_behind, positive}
use Rattle.model_active.specs.Passes.{All}
use Rattle.model_active.proofs.Lists.{tt0}
use Rattle.model_active.proofs.Picking.{none_holds}
use Rattle.active_books_next.specs.Firsts.{is_closed, is_wanting}

-- ---- one session

pub open_is : (w : List ℕ) (s i : ℕ) → At w s i → ltb 0 (word_at w 262 i) ≡ is_open s (book_of w).met
open_is w s i a = ap (ltb 0) (sym (opens_at w s i a))

pub not_open : (w : List ℕ) (s : ℕ) → FindsMet w s None → false ≡ is_open s (book_of w).met
not_open w s f = ap (ltb 0) (sym (absent w s f).0)

pub never_compared : (w : List ℕ) (s c : ℕ) → FindsMet w s None → false ≡ is (compared_of s (book_of w).met) c
never_compared w s c f = ap (λ (o : Option ℕ). is o c) (sym (absent w s f).1)

pub wanting_new : (w : List ℕ) (s i : ℕ) → FindsMet w s None → true ≡ is_wanting w i s
wanting_new w s i f = λ j. not (not_open w s f j) && not (never_compared w s i f j)

-- by where it stands among those met, if it does
pub met_or_not : (w : List ℕ) (s : ℕ) (P : ℕ → Type 0) (o : maybe.Option ℕ) {r t : Bool} → FindsMet w s o → MatchOption o (r ≡ false) P → (FindsMet w s None → false ≡ t) → ((i : ℕ) → At w s i → P i → r ≡ t) → r ≡ t
met_or_not w s P (Some i) f m away there = there i f m
met_or_not w s P None f m away there = m ∙ away f

pub open_not : (w : List ℕ) (s r i : ℕ) {b : Bool} → At w s r → (word_at w 262 r ≡ 0 → ⊥) → b ≡ false → b ≡ is_wanting w i s
open_not w s r i a h e =
    let opens : 0 < word_at w 262 r = positive (word_at w 262 r) h in
    e ∙ ap (λ (b : Bool). not b && not (is (compared_of s (book_of w).met) i)) (sym (lt-ltb 0 (word_at w 262 r) opens) ∙ open_is w s r a)

pub wanting_is : (w : List ℕ) (s r i : ℕ) {b : Bool} → At w s r → word_at w 262 r ≡ 0 → b ≡ is (compared_of s (book_of w).met) i → not b ≡ is_wanting w i s
wanting_is w s r i a h e = ap not e ∙ ap (λ (t : Bool). not t && not (is (compared_of s (book_of w).met) i)) (sym (le-ltb 0 (word_at w 262 r) (omega arith)) ∙ open_is w s r a)

-- ---- the searches

pub found_first : (p : ℕ → Bool) (xs : List ℕ) → option_of (find p xs) ≡ first_of p xs
found_first p [] = refl
found_first p (x ∷ xs) = go (p x) (found_first p xs)
  where
    go : (b : Bool) → option_of (find p xs) ≡ first_of p xs → option_of (cond b (Some x) (find p xs)) ≡ cond b (some x) (first_of p xs)
    go true e = refl
    go false e = e

all_are_with : (w : List ℕ) (i : ℕ) (l : List ℕ) → list_all (λ s. is (compared_of s (book_of w).met) i) l ≡ all_with (book_of w).met i l
all_are_with w i [] = refl
all_are_with w i (x ∷ l) = ap (λ (b : Bool). is (compared_of x (book_of w).met) i && b) (all_are_with w i l)

-- ---- the pick

first_some : (p : ℕ → Bool) (xs ys : List ℕ) (s : ℕ) → first_of p xs ≡ some s → first_of p (xs ++ ys) ≡ some s
first_some p [] ys s e = absurd (let z : ◌≡◌ {A = ℕ} 0 1 = cc in omega arith)
first_some p (x ∷ xs) ys s e = go (p x) e (first_some p xs ys s)
  where
    go : (b : Bool) → cond b (some x) (first_of p xs) ≡ some s → (first_of p xs ≡ some s → first_of p (xs ++ ys) ≡ some s) → cond b (some x) (first_of p (xs ++ ys)) ≡ some s
    go true q r = q
    go false q r = r q

first_none : (p : ℕ → Bool) (xs ys : List ℕ) → All (λ s. p s ≡ false) xs → first_of p (xs ++ ys) ≡ first_of p ys
first_none p [] ys a = refl
first_none p (x ∷ xs) ys a = ap (λ (b : Bool). cond b (some x) (first_of p (xs ++ ys))) a.0 ∙ first_none p xs ys a.1

first_alike : (p q : ℕ → Bool) (xs : List ℕ) → All (λ s. p s ≡ q s) xs → first_of p xs ≡ first_of q xs
first_alike p q [] a = refl
first_alike p q (x ∷ xs) a =
    let here = a.0 in
    let rest = first_alike p q xs a.1 in
    λ j. cond (here j) (some x) (rest j)

all_of : (P : ℕ → Type 0) (xs : List ℕ) → ((s : ℕ) → member s xs ≡ true → P s) → All P xs
all_of P [] f = tt0
all_of P (x ∷ xs) f = (f x (ap (λ (b : Bool). b || member x xs) (eq-eqb x x refl)), all_of P xs (λ s e. f s (go (eqb s x) s e)))
  where
    go : (b : Bool) (s : ℕ) → member s xs ≡ true → (b || member s xs) ≡ true
    go true s e = refl
    go false s e = e

-- of those behind, the closed ones could be picked
behind_alike : (w : List ℕ) (i : ℕ) → first_of (could_pick (book_of w) i) (book_of w).behind ≡ first_of (is_closed w) (book_of w).behind
behind_alike w i = first_alike (could_pick (book_of w) i) (is_closed w) (book_of w).behind
    (all_of (λ s. could_pick (book_of w) i s ≡ is_closed w s) (book_of w).behind (λ s e. ap (λ (b : Bool). is_closed w s && (b || not (is (compared_of s (book_of w).met) i))) e ∙ go (is_closed w s)))
  where
    go : (b : Bool) → (b && true) ≡ b
    go true = refl
    go false = refl

-- of the others, those that are closed and not compared: one that is behind is open
listed_alike : (w : List ℕ) (i s : ℕ) → All (λ t. could_pick (book_of w) i t ≡ false) (book_of w).behind → could_pick (book_of w) i s ≡ is_wanting w i s
listed_alike w i s a = go (member s (book_of w).behind) refl (is_closed w s) refl
  where
    go : (b : Bool) → member s (book_of w).behind ≡ b → (d : Bool) → is_closed w s ≡ d → (d && (b || not (is (compared_of s (book_of w).met) i))) ≡ (d && not (is (compared_of s (book_of w).met) i))
    go false e d q = refl
    go true e false q = refl
    go true e true q = absurd (true≢false ((λ j. sym q j && (sym e j || not (is (compared_of s (book_of w).met) i))) ∙ all_at (λ t. could_pick (book_of w) i t ≡ false) (book_of w).behind s a e))

pub picks_behind : (w l : List ℕ) (i s : ℕ) → Some s ≡ find (is_closed w) (book_of w).behind → pick (book_of w) l i ≡ some s
picks_behind w l i s f = first_some (could_pick (book_of w) i) (book_of w).behind l s (behind_alike w i ∙ sym (ap option_of f ∙ found_first (is_closed w) (book_of w).behind))

pub picks_later : (w l : List ℕ) (i : ℕ) (r : maybe.Option ℕ) → None ≡ find (is_closed w) (book_of w).behind → r ≡ find (is_wanting w i) l → pick (book_of w) l i ≡ option_of r
picks_later w l i r f e =
    let a = none_holds (could_pick (book_of w) i) (book_of w).behind (behind_alike w i ∙ sym (ap option_of f ∙ found_first (is_closed w) (book_of w).behind)) in
    (first_none (could_pick (book_of w) i) (book_of w).behind l a ∙ first_alike (could_pick (book_of w) i) (is_wanting w i) l (all_of (λ s. could_pick (book_of w) i s ≡ is_wanting w i s) l (λ s e. listed_alike w i s a)))
    ∙ sym (ap option_of e ∙ found_first (is_wanting w i) l)

-- ---- Checked

empty : (l : List ℕ) → is_none l ≡ eqb (length l) 0
empty [] = refl
empty (x ∷ l) = sym (ne_eqb (length (x ∷ l)) 0 (λ e. omega arith))

pub told_acknowledged : (w l : List ℕ) (i : ℕ) {t : Bool} → t ≡ is (book_of w).acknowledged i → t ≡ true → false ≡ told_checked (book_of w) l i
told_acknowledged w l i e f = ap (λ (x : Bool). not x && (is_none (book_of w).behind && all_with (book_of w).met i l)) (sym f ∙ e)

told_not : (w l : List ℕ) (i : ℕ) {t : Bool} → t ≡ is (book_of w).acknowledged i → t ≡ false → (eqb (get_or w 1 0) 0 && all_with (book_of w).met i l) ≡ told_checked (book_of w) l i
told_not w l i e f = λ j. not ((sym f ∙ e) j) && (sym (empty (book_of w).behind ∙ ap (λ (n : ℕ). eqb n 0) (length_behind w)) j && all_with (book_of w).met i l)

pub told_behind : (w l : List ℕ) (i : ℕ) {t : Bool} → t ≡ is (book_of w).acknowledged i → t ≡ false → (get_or w 1 0 ≡ 0 → ⊥) → eqb (get_or w 1 0) 0 ≡ told_checked (book_of w) l i
told_behind w l i e f many = go (eqb (get_or w 1 0) 0) (ne_eqb (get_or w 1 0) 0 many) ∙ told_not w l i e f
  where
    go : (b : Bool) → b ≡ false → b ≡ (b && all_with (book_of w).met i l)
    go true q = absurd (true≢false q)
    go false q = refl

pub told_is : (w l : List ℕ) (i : ℕ) {t b : Bool} → t ≡ is (book_of w).acknowledged i → t ≡ false → get_or w 1 0 ≡ 0 → b ≡ list_all (λ s. is (compared_of s (book_of w).met) i) l → b ≡ told_checked (book_of w) l i
told_is w l i e f none_left q = q ∙ all_are_with w i l ∙ ap (λ (b : Bool). b && all_with (book_of w).met i l) (sym (eq-eqb (get_or w 1 0) 0 none_left)) ∙ told_not w l i e f
