-- What a search through an area's words says of its book, and what each store makes of it. Assumes nothing.
use mathlib.Core.Path.{◌≡◌, refl, sym, ap, ◌∙◌}
use mathlib.Core.Bool.{Bool, true, false, not, cond, ◌||◌, true≢false}
use mathlib.Core.List.{List, [], ◌∷◌, ◌++◌}
use mathlib.Core.Option.{none, some}
use Prim.Native.Nat.{ℕ, zero, suc, ◌+◌, ◌-◌, ◌<◌, ◌≤◌}
use native.Mathlib.Omega.{arith}
use native.Mathlib.Numerals.{add-one}
use lib.ListN.{length, get_or, set, take, drop, length-set}
use lib.Seq.{get_or-set_same, get_or-set_other, drop-set-lt, drop-cons}
use Rattle.std.specs.Prelude.{Option, Some, None, is_some, unwrap_or, position}
use Rattle.std.specs.List.{position_or_len, list_any}
use Rattle.std.proofs.Common.{length-append}
use Rattle.std.proofs.lemmas.List.Quantifiers.{position-Some}
use Rattle.std.proofs.lemmas.List.Sums.{fails_before_first}
use Rattle.model_active.proofs.Lists.{eqb_swap}
use Rattle.base_refusals.specs.declared.Refusal.{Refusal}
use lib.Dec.{eqb, ltb}
use borrow.Author.Tests.{lt-ltb, le-ltb, ltb-true, ltb-false, eq-eqb, ne_eqb, eqb-true, eqb-false}
use Rattle.model_active.specs.CatchUp.{Entry, Book, new, member, meeting, sessions, opens_of, compared_of, on_entry, compared_with, is, less, met_now, behind_now, catching_now, acknowledged_now}
use Rattle.active_books_area.specs.Words.{list_from, word_at, book_entry, flagged, option_of, book_of}
use Rattle.active_books_area.specs.Parts.{BooksRules, MakesBook, At, FindsMet, Appends, Meets, IsFull}
use Rattle.active_books_area.proofs.Laws.{First, member_first, entry_first, changed, length_from, from_alike, from_snoc, sessions_from}

-- ---- what a search says

plus-zero : (n : ℕ) → n + 0 ≡ n
plus-zero n = omega arith

-- the words of a run are those from its first on
run_of : (w : List ℕ) (base n : ℕ) → base + n ≤ length w → take n (drop base w) ≡ list_from (word_at w base) 0 n
run_of w base n fits = ap (λ (k : ℕ). take n (drop k w)) (sym (plus-zero base)) ∙ go 0 n (omega arith)
  where
    go : (i m : ℕ) → base + (i + m) ≤ length w → take m (drop (base + i) w) ≡ list_from (word_at w base) i m
    go i zero h = refl
    go i (suc m) h =
        let less : base + i < length w = omega arith in
        let next : suc (base + i) ≡ base + suc i = omega arith in
        ap (take (suc m)) (drop-cons w (base + i) 0 less) ∙ ap (λ (l : List ℕ). word_at w base i ∷ l) (ap (λ (k : ℕ). take m (drop k w)) next ∙ go (suc i) m (omega arith))

pub contained : (s : ℕ) (l : List ℕ) → list_any (λ x. eqb x s) l ≡ member s l
contained s [] = refl
contained s (x ∷ l) = λ j. eqb_swap x s j || contained s l j

less_more : (r n : ℕ) → ltb (1 + r) (suc n) ≡ ltb r n
less_more r n = go (ltb r n) refl
  where
    go : (b : Bool) → ltb r n ≡ b → ltb (1 + r) (suc n) ≡ ltb r n
    go true t = let less : 1 + r < suc n = omega (arith, ltb-true r n t) in lt-ltb (1 + r) (suc n) less ∙ sym t
    go false t = let over : suc n ≤ 1 + r = omega (arith, ltb-false r n t) in le-ltb (1 + r) (suc n) over ∙ sym t

stands : (s : ℕ) (l : List ℕ) → ltb (position_or_len (λ x. eqb x s) l) (length l) ≡ member s l
stands s [] = refl
stands s (x ∷ l) = go (eqb x s) ∙ (λ j. eqb_swap x s j || stands s l j)
  where
    go : (b : Bool) → ltb (cond (not b) (1 + position_or_len (λ x. eqb x s) l) 0) (suc (length l)) ≡ (b || ltb (position_or_len (λ x. eqb x s) l) (length l))
    go true = let some : 0 < suc (length l) = omega arith in lt-ltb 0 (suc (length l)) some
    go false = less_more (position_or_len (λ x. eqb x s) l) (length l)

-- a search finds those that are members
pub found_is : (s : ℕ) (l : List ℕ) → is_some (position (λ x. eqb x s) l) ≡ member s l
found_is s l = go (ltb (position_or_len (λ x. eqb x s) l) (length l)) ∙ stands s l
  where
    go : (b : Bool) → is_some (cond b (Some (position_or_len (λ x. eqb x s) l)) None) ≡ b
    go true = refl
    go false = refl

first_of_lem : (w : List ℕ) (s i : ℕ) → At w s i → First s i (word_at w 6) 0 (get_or w 0 0)
first_of_lem w s i a = record { low = omega arith; high = omega (arith, a.inside); before = λ k x y. a.before k y; there = λ h. a.there }

zero_plus : (n : ℕ) → 0 + n ≡ n
zero_plus n = omega arith

none_passes : (p : ℕ → Bool) (l : List ℕ) → position p l ≡ None → length l ≤ position_or_len p l
none_passes p l e = go (ltb (position_or_len p l) (length l)) refl
  where
    go : (b : Bool) → ltb (position_or_len p l) (length l) ≡ b → length l ≤ position_or_len p l
    go true t = let no : Some (position_or_len p l) ≡ None = sym (ap (λ (b : Bool). cond b (Some (position_or_len p l)) None) t) ∙ e in absurd (let z : ⊥ = cc in z)
    go false t = ltb-false (position_or_len p l) (length l) t

-- a search of the run of those met
-- the runs of those met and of those behind
pub met_run : (w : List ℕ) (m : ℕ) → BooksRules w → m ≡ get_or w 0 0 → take m (drop 6 w) ≡ sessions (book_of w).met
unfolding book_of
met_run w m ruled q = ap (λ (n : ℕ). take n (drop 6 w)) q ∙ run_of w 6 (get_or w 0 0) (omega (arith, ruled.long, ruled.few)) ∙ sym (sessions_from (book_entry w) 0 (get_or w 0 0))

pub behind_run : (w : List ℕ) (m : ℕ) → BooksRules w → m ≡ get_or w 1 0 → take m (drop 1030 w) ≡ (book_of w).behind
unfolding book_of
behind_run w m ruled q = ap (λ (n : ℕ). take n (drop 1030 w)) q ∙ run_of w 1030 (get_or w 1 0) (omega (arith, ruled.long, ruled.few_behind))

met_is : (w : List ℕ) → sessions (book_of w).met ≡ list_from (word_at w 6) 0 (get_or w 0 0)
unfolding book_of
met_is w = sessions_from (book_entry w) 0 (get_or w 0 0)

at_from : (f : ℕ → ℕ) (i n k : ℕ) → k < n → get_or (list_from f i n) k 0 ≡ f (i + k)
at_from f i zero k h = absurd (let z : ⊥ = omega arith in z)
at_from f i (suc n) zero h = let z : i ≡ i + 0 = omega arith in ap f z
at_from f i (suc n) (suc k) h = let z : suc i + k ≡ i + suc k = omega arith in at_from f (suc i) n k (omega arith) ∙ ap f z

pub met_at : (w : List ℕ) (k : ℕ) → k < get_or w 0 0 → get_or (sessions (book_of w).met) k 0 ≡ word_at w 6 k
met_at w k h = let z : 0 + k ≡ k = omega arith in ap (λ (l : List ℕ). get_or l k 0) (met_is w) ∙ at_from (word_at w 6) 0 (get_or w 0 0) k h ∙ ap (word_at w 6) z

pub met_size : (w : List ℕ) → length (sessions (book_of w).met) ≡ get_or w 0 0
met_size w = ap length (met_is w) ∙ length_from (word_at w 6) 0 (get_or w 0 0)

-- a search of those met
pub found_met : (w : List ℕ) (s : ℕ) (r : Option ℕ) → BooksRules w → r ≡ position (λ x. eqb x s) (sessions (book_of w).met) → FindsMet w s r
found_met w s (Some i) ruled e =
    let p = position-Some (λ x. eqb x s) (sessions (book_of w).met) i 0 (sym e) in
    let inside : i < get_or w 0 0 = omega (arith, met_size w, p.0) in
    record {
      ruled = ruled;
      before = λ k h q. true≢false (sym (eq-eqb _ s (met_at w k (omega arith) ∙ q)) ∙ p.2 k h);
      there = sym (met_at w i inside) ∙ eqb-true _ s p.1;
      inside = inside;
    }
found_met w s None ruled e = λ k h q.
    let fails = fails_before_first (λ x. eqb x s) (sessions (book_of w).met) k 0 (omega (arith, met_size w, none_passes (λ x. eqb x s) (sessions (book_of w).met) (sym e))) in
    true≢false (sym (eq-eqb _ s (met_at w k h ∙ q)) ∙ fails)

in_it : (w : List ℕ) (s i : ℕ) → At w s i → ltb i (0 + get_or w 0 0) ≡ true
in_it w s i a = ap (ltb i) (zero_plus (get_or w 0 0)) ∙ lt-ltb i (get_or w 0 0) a.inside

pub there_met : (w : List ℕ) (s i : ℕ) → At w s i → member s (sessions (book_of w).met) ≡ true
there_met w s i a = ap (member s) (met_is w) ∙ member_first s i (word_at w 6) 0 (get_or w 0 0) (first_of_lem w s i a) ∙ in_it w s i a

none_first : (w : List ℕ) (s : ℕ) → FindsMet w s None → First s (get_or w 0 0) (word_at w 6) 0 (get_or w 0 0)
none_first w s f = record { low = omega arith; high = omega arith; before = λ k x y. f k y; there = λ h. absurd (let z : ⊥ = omega arith in z) }

not_in_it : (n : ℕ) → ltb n (0 + n) ≡ false
not_in_it n = le-ltb n (0 + n) (omega arith)

pub none_met : (w : List ℕ) (s : ℕ) → FindsMet w s None → member s (sessions (book_of w).met) ≡ false
none_met w s f = ap (member s) (met_is w) ∙ member_first s (get_or w 0 0) (word_at w 6) 0 (get_or w 0 0) (none_first w s f) ∙ not_in_it (get_or w 0 0)

-- a session that wasn't met is closed, and was compared with none
pub absent : (w : List ℕ) (s : ℕ) → FindsMet w s None → (opens_of s (book_of w).met ≡ 0) × (compared_of s (book_of w).met ≡ none)
unfolding book_of
absent w s f =
    let n = get_or w 0 0 in
    let e = entry_first s n (book_entry w) 0 n (none_first w s f) in (
      e.0 ∙ ap (λ (b : Bool). cond b (word_at w 262 n) 0) (not_in_it n),
      e.1 ∙ ap (λ (b : Bool). cond b (flagged (word_at w 518 n) (word_at w 774 n)) none) (not_in_it n),
    )

pub positive : (n : ℕ) → (n ≡ 0 → ⊥) → 0 < n
positive n ne = omega arith

pub opens_at : (w : List ℕ) (s i : ℕ) → At w s i → opens_of s (book_of w).met ≡ word_at w 262 i
unfolding book_of
opens_at w s i a = (entry_first s i (book_entry w) 0 (get_or w 0 0) (first_of_lem w s i a)).0 ∙ ap (λ (b : Bool). cond b (word_at w 262 i) 0) (in_it w s i a)

pub compared_at : (w : List ℕ) (s i : ℕ) → At w s i → compared_of s (book_of w).met ≡ flagged (word_at w 518 i) (word_at w 774 i)
unfolding book_of
compared_at w s i a = (entry_first s i (book_entry w) 0 (get_or w 0 0) (first_of_lem w s i a)).1 ∙ ap (λ (b : Bool). cond b (flagged (word_at w 518 i) (word_at w 774 i)) none) (in_it w s i a)

-- a word that is 0, and one that isn't
pub no_flag : (f n i : ℕ) → f ≡ 0 → false ≡ is (flagged f n) i
no_flag f n i e = ap (λ (b : Bool). is (cond b none (some n)) i) (sym (eq-eqb f 0 e))

pub flag_0 : (f n i : ℕ) → f ≡ 0 → not (eqb f 0) ≡ is (flagged f n) i
flag_0 f n i e = ap not (eq-eqb f 0 e) ∙ no_flag f n i e

pub flag_is : (f n i : ℕ) → (f ≡ 0 → ⊥) → eqb n i ≡ is (flagged f n) i
flag_is f n i ne = ap (λ (b : Bool). is (cond b none (some n)) i) (sym (ne_eqb f 0 ne))

-- an option in two words
pub flagged_option : (o : Option ℕ) (f n : ℕ) → f ≡ cond (is_some o) 1 0 → n ≡ unwrap_or o 0 → flagged f n ≡ option_of o
flagged_option (Some s) f n e q = ap (λ (b : Bool). cond b none (some n)) (ne_eqb f 0 (λ z. omega arith)) ∙ ap some q
flagged_option None f n e q = ap (λ (b : Bool). cond b none (some n)) (eq-eqb f 0 e)

pub length_met : (w : List ℕ) → length (book_of w).met ≡ get_or w 0 0
unfolding book_of
length_met w = length_from (book_entry w) 0 (get_or w 0 0)

pub length_behind : (w : List ℕ) → length (book_of w).behind ≡ get_or w 1 0
unfolding book_of
length_behind w = length_from (word_at w 1030) 0 (get_or w 1 0)

-- ---- stores

other : (w : List ℕ) (j v k : ℕ) → (k ≡ j → ⊥) → get_or (set w j v) k 0 ≡ get_or w k 0
other w j v k ne = get_or-set_other w j k v 0 ne

-- what a change must leave alone for only those met to change; for only those behind
record Outside (w w' : List ℕ) : Type 0 where
  size : length w' ≡ length w
  rest : drop 1286 w' ≡ drop 1286 w

set_outside : (w : List ℕ) (j v : ℕ) → j < 1286 → Outside w (set w j v)
set_outside w j v less = record { size = length-set w j v; rest = drop-set-lt 1286 w j v less }

outside_on : (w₁ w₂ w₃ : List ℕ) → Outside w₁ w₂ → Outside w₂ w₃ → Outside w₁ w₃
outside_on w₁ w₂ w₃ a b = record { size = b.size ∙ a.size; rest = b.rest ∙ a.rest }

on_entry_lem : (w w' : List ℕ) (s i : ℕ) (h : Entry → Entry) → At w s i → Outside w w' → ((k : ℕ) → k < 6 → get_or w' k 0 ≡ get_or w k 0)
    → ((k : ℕ) → k < 256 → (k ≡ i → ⊥) → book_entry w' k ≡ book_entry w k) → book_entry w' i ≡ h (book_entry w i) → ((k : ℕ) → k < 256 → word_at w' 1030 k ≡ word_at w 1030 k)
    → MakesBook w w' (met_now (book_of w) (on_entry s h (book_of w).met))
unfolding book_of
on_entry_lem w w' s i h a o singles others at behind =
    let r = a.ruled in
    let n0 : 0 < 6 = omega arith in
    let n1 : 1 < 6 = omega arith in
    let m = ap (list_from (book_entry w') 0) (singles 0 n0)
    ∙ changed s i (book_entry w) (book_entry w') h 0 (get_or w 0 0) (first_of_lem w s i a) (omega (arith, a.inside)) at (λ k x y ne. others k (omega (arith, r.few)) ne) in
    let b = ap (list_from (word_at w' 1030) 0) (singles 1 n1) ∙ from_alike (word_at w' 1030) (word_at w 1030) 0 (get_or w 1 0) (λ k x y. behind k (omega (arith, r.few_behind))) in
    let x2 = singles 2 (omega arith) in
    let x3 = singles 3 (omega arith) in
    let x4 = singles 4 (omega arith) in
    let x5 = singles 5 (omega arith) in
    record {
      book = λ j. record { met = m j; behind = b j; catching = flagged (x2 j) (x3 j); acknowledged = flagged (x4 j) (x5 j) };
      ruled = record { long = omega (arith, o.size, r.long); few = omega (arith, singles 0 n0, r.few); few_behind = omega (arith, singles 1 n1, r.few_behind) };
      rest = o.rest;
    }

-- the open count of the entry at i
pub opens_set : (w : List ℕ) (s i v : ℕ) (g : ℕ → ℕ) → At w s i → v ≡ g (word_at w 262 i)
    → MakesBook w (set w (262 + i) v) (met_now (book_of w) (on_entry s (λ e. record { session = e.session; opens = g e.opens; compared = e.compared }) (book_of w).met))
opens_set w s i v g a e =
    let few : i < 256 = omega (arith, a.inside, a.ruled.few) in
    let inside : 262 + i < length w = omega (arith, a.ruled.long) in
    on_entry_lem w (set w (262 + i) v) s i (λ e. record { session = e.session; opens = g e.opens; compared = e.compared }) a (set_outside w (262 + i) v (omega arith))
    (λ k h. other w (262 + i) v k (λ q. omega arith))
    (λ k h ne.
    let a1 = other w (262 + i) v (6 + k) (λ q. omega arith) in
    let a2 = other w (262 + i) v (262 + k) (λ q. ne (omega arith)) in
    let a3 = other w (262 + i) v (518 + k) (λ q. omega arith) in
    let a4 = other w (262 + i) v (774 + k) (λ q. omega arith) in
    λ j. record { session = a1 j; opens = a2 j; compared = flagged (a3 j) (a4 j) })
    (let a1 = other w (262 + i) v (6 + i) (λ q. omega arith) in
    let a2 = get_or-set_same w (262 + i) v 0 inside ∙ e in
    let a3 = other w (262 + i) v (518 + i) (λ q. omega arith) in
    let a4 = other w (262 + i) v (774 + i) (λ q. omega arith) in
    λ j. record { session = a1 j; opens = a2 j; compared = flagged (a3 j) (a4 j) })
    (λ k h. other w (262 + i) v (1030 + k) (λ q. omega arith))

other2 : (w : List ℕ) (a x b y k : ℕ) → (k ≡ a → ⊥) → (k ≡ b → ⊥) → get_or (set (set w a x) b y) k 0 ≡ get_or w k 0
other2 w a x b y k na nb = other (set w a x) b y k nb ∙ other w a x k na

-- the incarnation that the session at i was compared with
pub compared_set : (w : List ℕ) (s i c : ℕ) → At w s i → MakesBook w (set (set w (518 + i) 1) (774 + i) c) (met_now (book_of w) (on_entry s (compared_with c) (book_of w).met))
compared_set w s i c a =
    let few : i < 256 = omega (arith, a.inside, a.ruled.few) in
    let w₁ = set w (518 + i) 1 in
    let inside : 518 + i < length w = omega (arith, a.ruled.long) in
    let inside2 : 774 + i < length w₁ = omega (arith, a.ruled.long, length-set w (518 + i) 1) in
    on_entry_lem w (set w₁ (774 + i) c) s i (compared_with c) a
    (outside_on w w₁ (set w₁ (774 + i) c) (set_outside w (518 + i) 1 (omega arith)) (set_outside w₁ (774 + i) c (omega arith)))
    (λ k h. other2 w (518 + i) 1 (774 + i) c k (λ q. omega arith) (λ q. omega arith))
    (λ k h ne.
    let a1 = other2 w (518 + i) 1 (774 + i) c (6 + k) (λ q. omega arith) (λ q. omega arith) in
    let a2 = other2 w (518 + i) 1 (774 + i) c (262 + k) (λ q. omega arith) (λ q. omega arith) in
    let a3 = other2 w (518 + i) 1 (774 + i) c (518 + k) (λ q. ne (omega arith)) (λ q. omega arith) in
    let a4 = other2 w (518 + i) 1 (774 + i) c (774 + k) (λ q. omega arith) (λ q. ne (omega arith)) in
    λ j. record { session = a1 j; opens = a2 j; compared = flagged (a3 j) (a4 j) })
    (let a1 = other2 w (518 + i) 1 (774 + i) c (6 + i) (λ q. omega arith) (λ q. omega arith) in
    let a2 = other2 w (518 + i) 1 (774 + i) c (262 + i) (λ q. omega arith) (λ q. omega arith) in
    let a3 = other w₁ (774 + i) c (518 + i) (λ q. omega arith) ∙ get_or-set_same w (518 + i) 1 0 inside in
    let a4 = get_or-set_same w₁ (774 + i) c 0 inside2 in
    λ j. record { session = a1 j; opens = a2 j; compared = flagged (a3 j) (a4 j) })
    (λ k h. other2 w (518 + i) 1 (774 + i) c (1030 + k) (λ q. omega arith) (λ q. omega arith))

-- only the count and the words of those behind are written
pub on_behind : (w w' l : List ℕ) → BooksRules w → length w' ≡ length w → drop 1286 w' ≡ drop 1286 w → ((k : ℕ) → k < 1030 → (k ≡ 1 → ⊥) → get_or w' k 0 ≡ get_or w k 0)
    → get_or w' 1 0 ≤ 256 → list_from (word_at w' 1030) 0 (get_or w' 1 0) ≡ l → MakesBook w w' (behind_now (book_of w) l)
unfolding book_of
on_behind w w' l r size rest same few list =
    let n0 : get_or w' 0 0 ≡ get_or w 0 0 = same 0 (omega arith) (λ q. omega arith) in
    let m = ap (list_from (book_entry w') 0) n0 ∙ from_alike (book_entry w') (book_entry w) 0 (get_or w 0 0) (λ k x y.
    let less : k < 256 = omega (arith, r.few) in
    let a1 = same (6 + k) (omega arith) (λ q. omega arith) in
    let a2 = same (262 + k) (omega arith) (λ q. omega arith) in
    let a3 = same (518 + k) (omega arith) (λ q. omega arith) in
    let a4 = same (774 + k) (omega arith) (λ q. omega arith) in
    λ j. record { session = a1 j; opens = a2 j; compared = flagged (a3 j) (a4 j) }) in
    let x2 = same 2 (omega arith) (λ q. omega arith) in
    let x3 = same 3 (omega arith) (λ q. omega arith) in
    let x4 = same 4 (omega arith) (λ q. omega arith) in
    let x5 = same 5 (omega arith) (λ q. omega arith) in
    record {
      book = λ j. record { met = m j; behind = list j; catching = flagged (x2 j) (x3 j); acknowledged = flagged (x4 j) (x5 j) };
      ruled = record { long = omega (arith, r.long); few = omega (arith, r.few); few_behind = few };
      rest = rest;
    }

-- one session more behind
pub pushed : (w : List ℕ) (s m : ℕ) → BooksRules w → get_or w 1 0 ≡ m → m < 256
    → MakesBook w (set (set w (1030 + m) s) 1 (m + 1)) (behind_now (book_of w) ((book_of w).behind ++ (s ∷ [])))
unfolding book_of
pushed w s m r is_m less =
    let w₁ = set w (1030 + m) s in
    let w₂ = set w₁ 1 (m + 1) in
    let in₁ : 1030 + m < length w = omega (arith, r.long) in
    let in₂ : 1 < length w₁ = omega (arith, r.long, length-set w (1030 + m) s) in
    let count : get_or w₂ 1 0 ≡ suc m = get_or-set_same w₁ 1 (m + 1) 0 in₂ ∙ add-one m in
    let o = outside_on w w₁ w₂ (set_outside w (1030 + m) s (omega arith)) (set_outside w₁ 1 (m + 1) (omega arith)) in
    let front : list_from (word_at w₂ 1030) 0 m ≡ list_from (word_at w 1030) 0 (get_or w 1 0) =
    from_alike (word_at w₂ 1030) (word_at w 1030) 0 m (λ k x y. other2 w (1030 + m) s 1 (m + 1) (1030 + k) (λ q. omega arith) (λ q. omega arith)) ∙ ap (list_from (word_at w 1030) 0) (sym is_m) in
    let last : word_at w₂ 1030 (0 + m) ≡ s = ap (word_at w₂ 1030) (zero_plus m) ∙ other w₁ 1 (m + 1) (1030 + m) (λ q. omega arith) ∙ get_or-set_same w (1030 + m) s 0 in₁ in
    on_behind w w₂ (list_from (word_at w 1030) 0 (get_or w 1 0) ++ (s ∷ [])) r o.size o.rest
    (λ k x ne. other2 w (1030 + m) s 1 (m + 1) k (λ q. omega arith) ne)
    (omega (arith, count))
    (ap (list_from (word_at w₂ 1030) 0) count ∙ from_snoc (word_at w₂ 1030) 0 m ∙ (λ j. front j ++ (last j ∷ [])))

-- the words 2 and 3, or 4 and 5
pub catching_put : (w : List ℕ) (f s : ℕ) (o : Option ℕ) → BooksRules w → flagged f s ≡ option_of o → MakesBook w (set (set w 2 f) 3 s) (catching_now (book_of w) (option_of o))
unfolding book_of
catching_put w f s o r e =
    let w₁ = set w 2 f in
    let w₂ = set w₁ 3 s in
    let in₁ : 2 < length w = omega (arith, r.long) in
    let in₂ : 3 < length w₁ = omega (arith, r.long, length-set w 2 f) in
    let out = outside_on w w₁ w₂ (set_outside w 2 f (omega arith)) (set_outside w₁ 3 s (omega arith)) in
    let same : (k : ℕ) → (k ≡ 2 → ⊥) → (k ≡ 3 → ⊥) → get_or w₂ k 0 ≡ get_or w k 0 = other2 w 2 f 3 s in
    let x0 = same 0 (λ q. omega arith) (λ q. omega arith) in
    let x1 = same 1 (λ q. omega arith) (λ q. omega arith) in
    let x2 = other w₁ 3 s 2 (λ q. omega arith) ∙ get_or-set_same w 2 f 0 in₁ in
    let x3 = get_or-set_same w₁ 3 s 0 in₂ in
    let xc : flagged (get_or w₂ 2 0) (get_or w₂ 3 0) ≡ option_of o = (λ j. flagged (x2 j) (x3 j)) ∙ e in
    let x4 = same 4 (λ q. omega arith) (λ q. omega arith) in
    let x5 = same 5 (λ q. omega arith) (λ q. omega arith) in
    let m = ap (list_from (book_entry w₂) 0) x0 ∙ from_alike (book_entry w₂) (book_entry w) 0 (get_or w 0 0) (λ k x y.
    let a1 = same (6 + k) (λ q. omega arith) (λ q. omega arith) in
    let a2 = same (262 + k) (λ q. omega arith) (λ q. omega arith) in
    let a3 = same (518 + k) (λ q. omega arith) (λ q. omega arith) in
    let a4 = same (774 + k) (λ q. omega arith) (λ q. omega arith) in
    λ j. record { session = a1 j; opens = a2 j; compared = flagged (a3 j) (a4 j) }) in
    let b = ap (list_from (word_at w₂ 1030) 0) x1 ∙ from_alike (word_at w₂ 1030) (word_at w 1030) 0 (get_or w 1 0) (λ k x y. same (1030 + k) (λ q. omega arith) (λ q. omega arith)) in
    record {
      book = λ j. record { met = m j; behind = b j; catching = xc j; acknowledged = flagged (x4 j) (x5 j) };
      ruled = record { long = omega (arith, r.long, out.size); few = omega (arith, r.few, x0); few_behind = omega (arith, r.few_behind, x1) };
      rest = out.rest;
    }

pub catching_set : (w : List ℕ) (f s : ℕ) (o : Option ℕ) → BooksRules w → f ≡ cond (is_some o) 1 0 → s ≡ unwrap_or o 0 → MakesBook w (set (set w 2 f) 3 s) (catching_now (book_of w) (option_of o))
catching_set w f s o r ef es = catching_put w f s o r (flagged_option o f s ef es)

pub acknowledged_set : (w : List ℕ) (i : ℕ) → BooksRules w → MakesBook w (set (set w 4 1) 5 i) (acknowledged_now (book_of w) (some i))
unfolding book_of
acknowledged_set w i r =
    let w₁ = set w 4 1 in
    let w₂ = set w₁ 5 i in
    let in₁ : 4 < length w = omega (arith, r.long) in
    let in₂ : 5 < length w₁ = omega (arith, r.long, length-set w 4 1) in
    let o = outside_on w w₁ w₂ (set_outside w 4 1 (omega arith)) (set_outside w₁ 5 i (omega arith)) in
    let same : (k : ℕ) → (k ≡ 4 → ⊥) → (k ≡ 5 → ⊥) → get_or w₂ k 0 ≡ get_or w k 0 = other2 w 4 1 5 i in
    let x0 = same 0 (λ q. omega arith) (λ q. omega arith) in
    let x1 = same 1 (λ q. omega arith) (λ q. omega arith) in
    let x2 = same 2 (λ q. omega arith) (λ q. omega arith) in
    let x3 = same 3 (λ q. omega arith) (λ q. omega arith) in
    let x4 = other w₁ 5 i 4 (λ q. omega arith) ∙ get_or-set_same w 4 1 0 in₁ in
    let x5 = get_or-set_same w₁ 5 i 0 in₂ in
    let m = ap (list_from (book_entry w₂) 0) x0 ∙ from_alike (book_entry w₂) (book_entry w) 0 (get_or w 0 0) (λ k x y.
    let a1 = same (6 + k) (λ q. omega arith) (λ q. omega arith) in
    let a2 = same (262 + k) (λ q. omega arith) (λ q. omega arith) in
    let a3 = same (518 + k) (λ q. omega arith) (λ q. omega arith) in
    let a4 = same (774 + k) (λ q. omega arith) (λ q. omega arith) in
    λ j. record { session = a1 j; opens = a2 j; compared = flagged (a3 j) (a4 j) }) in
    let b = ap (list_from (word_at w₂ 1030) 0) x1 ∙ from_alike (word_at w₂ 1030) (word_at w 1030) 0 (get_or w 1 0) (λ k x y. same (1030 + k) (λ q. omega arith) (λ q. omega arith)) in
    record {
      book = λ j. record { met = m j; behind = b j; catching = flagged (x2 j) (x3 j); acknowledged = flagged (x4 j) (x5 j) };
      ruled = record { long = omega (arith, r.long, o.size); few = omega (arith, r.few, x0); few_behind = omega (arith, r.few_behind, x1) };
      rest = o.rest;
    }

-- ---- one session met

other4 : (w : List ℕ) (a x b y c z d v k : ℕ) → (k ≡ a → ⊥) → (k ≡ b → ⊥) → (k ≡ c → ⊥) → (k ≡ d → ⊥) → get_or (set (set (set (set w a x) b y) c z) d v) k 0 ≡ get_or w k 0
other4 w a x b y c z d v k na nb nc nd = other2 (set (set w a x) b y) c z d v k nc nd ∙ other2 w a x b y k na nb

pub appended : (w : List ℕ) (s n : ℕ) → BooksRules w → get_or w 0 0 ≡ n → n < 256 → Appends w (set (set (set (set w (6 + n) s) (262 + n) 0) (518 + n) 0) 0 (n + 1)) s
unfolding book_of
appended w s n r is-n less =
    let w₁ = set w (6 + n) s in
    let w₂ = set w₁ (262 + n) 0 in
    let w₃ = set w₂ (518 + n) 0 in
    let w₄ = set w₃ 0 (n + 1) in
    let l₁ = length-set w (6 + n) s in
    let l₂ = length-set w₁ (262 + n) 0 in
    let l₃ = length-set w₂ (518 + n) 0 in
    let in₁ : 6 + n < length w = omega (arith, r.long) in
    let in₂ : 262 + n < length w₁ = omega (arith, r.long, l₁) in
    let in₃ : 518 + n < length w₂ = omega (arith, r.long, l₁, l₂) in
    let in₄ : 0 < length w₃ = omega (arith, r.long, l₁, l₂, l₃) in
    let o = outside_on w w₂ w₄ (outside_on w w₁ w₂ (set_outside w (6 + n) s (omega arith)) (set_outside w₁ (262 + n) 0 (omega arith)))
    (outside_on w₂ w₃ w₄ (set_outside w₂ (518 + n) 0 (omega arith)) (set_outside w₃ 0 (n + 1) (omega arith))) in
    let same : (k : ℕ) → (k ≡ 6 + n → ⊥) → (k ≡ 262 + n → ⊥) → (k ≡ 518 + n → ⊥) → (k ≡ 0 → ⊥) → get_or w₄ k 0 ≡ get_or w k 0 = other4 w (6 + n) s (262 + n) 0 (518 + n) 0 0 (n + 1) in
    let count : get_or w₄ 0 0 ≡ n + 1 = get_or-set_same w₃ 0 (n + 1) 0 in₄ in
    let x1 = same 1 (λ q. omega arith) (λ q. omega arith) (λ q. omega arith) (λ q. omega arith) in
    let x2 = same 2 (λ q. omega arith) (λ q. omega arith) (λ q. omega arith) (λ q. omega arith) in
    let x3 = same 3 (λ q. omega arith) (λ q. omega arith) (λ q. omega arith) (λ q. omega arith) in
    let x4 = same 4 (λ q. omega arith) (λ q. omega arith) (λ q. omega arith) (λ q. omega arith) in
    let x5 = same 5 (λ q. omega arith) (λ q. omega arith) (λ q. omega arith) (λ q. omega arith) in
    let front : list_from (book_entry w₄) 0 n ≡ list_from (book_entry w) 0 (get_or w 0 0) = from_alike (book_entry w₄) (book_entry w) 0 n (λ k x y.
    let a1 = same (6 + k) (λ q. omega arith) (λ q. omega arith) (λ q. omega arith) (λ q. omega arith) in
    let a2 = same (262 + k) (λ q. omega arith) (λ q. omega arith) (λ q. omega arith) (λ q. omega arith) in
    let a3 = same (518 + k) (λ q. omega arith) (λ q. omega arith) (λ q. omega arith) (λ q. omega arith) in
    let a4 = same (774 + k) (λ q. omega arith) (λ q. omega arith) (λ q. omega arith) (λ q. omega arith) in
    λ j. record { session = a1 j; opens = a2 j; compared = flagged (a3 j) (a4 j) }) ∙ ap (list_from (book_entry w) 0) (sym is-n) in
    let e1 : word_at w₄ 6 n ≡ s = other2 w₂ (518 + n) 0 0 (n + 1) (6 + n) (λ q. omega arith) (λ q. omega arith) ∙ other w₁ (262 + n) 0 (6 + n) (λ q. omega arith) ∙ get_or-set_same w (6 + n) s 0 in₁ in
    let e2 : word_at w₄ 262 n ≡ 0 = other2 w₂ (518 + n) 0 0 (n + 1) (262 + n) (λ q. omega arith) (λ q. omega arith) ∙ get_or-set_same w₁ (262 + n) 0 0 in₂ in
    let e3 : word_at w₄ 518 n ≡ 0 = other w₃ 0 (n + 1) (518 + n) (λ q. omega arith) ∙ get_or-set_same w₂ (518 + n) 0 0 in₃ in
    let last : book_entry w₄ (0 + n) ≡ new s = ap (book_entry w₄) (zero_plus n) ∙ (λ j. record { session = e1 j; opens = e2 j; compared = flagged (e3 j) (word_at w₄ 774 n) }) in
    let m : list_from (book_entry w₄) 0 (get_or w₄ 0 0) ≡ list_from (book_entry w) 0 (get_or w 0 0) ++ (new s ∷ []) =
    ap (list_from (book_entry w₄) 0) (count ∙ add-one n) ∙ from_snoc (book_entry w₄) 0 n ∙ (λ j. front j ++ (last j ∷ [])) in
    let b = ap (list_from (word_at w₄ 1030) 0) x1 ∙ from_alike (word_at w₄ 1030) (word_at w 1030) 0 (get_or w 1 0) (λ k x y.
    same (1030 + k) (λ q. omega arith) (λ q. omega arith) (λ q. omega arith) (λ q. omega arith)) in
    record {
      makes = record {
        book = λ j. record { met = m j; behind = b j; catching = flagged (x2 j) (x3 j); acknowledged = flagged (x4 j) (x5 j) };
        ruled = record { long = omega (arith, r.long, o.size); few = omega (arith, count); few_behind = omega (arith, r.few_behind, x1) };
        rest = o.rest;
      };
      count = omega (arith, count, is-n);
      before = λ k h. same (6 + k) (λ q. omega (arith, is-n)) (λ q. omega (arith, is-n)) (λ q. omega (arith, is-n)) (λ q. omega arith);
      last = ap (word_at w₄ 6) is-n ∙ e1;
    }

-- who is met already, and who is appended
pub met_already : (w : List ℕ) (s i : ℕ) → At w s i → Meets w w s i
met_already w s i a = record {
  makes = record { book = ap (λ (b : Bool). met_now (book_of w) (cond b (book_of w).met ((book_of w).met ++ (new s ∷ [])))) (sym (there_met w s i a)); ruled = a.ruled; rest = refl };
  at = a;
}

pub met_last : (w w' : List ℕ) (s : ℕ) → FindsMet w s None → Appends w w' s → Meets w w' s (get_or w 0 0)
met_last w w' s f a = record {
  makes = record {
    book = a.makes.book ∙ ap (λ (b : Bool). met_now (book_of w) (cond b (book_of w).met ((book_of w).met ++ (new s ∷ [])))) (sym (none_met w s f));
    ruled = a.makes.ruled;
    rest = a.makes.rest;
  };
  at = record {
    ruled = a.makes.ruled;
    before = λ k h e. f k h (sym (a.before k h) ∙ e);
    there = a.last;
    inside = omega (arith, a.count);
  };
}

-- a search that found nothing
not_found : (w : List ℕ) (s : ℕ) (r : Option ℕ) → FindsMet w s r → is_some r ≡ false → FindsMet w s None
not_found w s (Some i) f e = absurd (true≢false e)
not_found w s None f e = f

-- the 257th
pub met_full : (w : List ℕ) (s : ℕ) (r : Option ℕ) (e : Refusal) → FindsMet w s r → is_some r ≡ false → 256 ≤ get_or w 0 0 → e ≡ Refusal.TooManySessions → IsFull w w s e
met_full w s r e f nothing full q =
    let grown : meeting (s ∷ []) (book_of w).met ≡ (book_of w).met ++ (new s ∷ []) = ap (λ (b : Bool). cond b (book_of w).met ((book_of w).met ++ (new s ∷ []))) (none_met w s (not_found w s r f nothing)) in
    record { refusal = q; unchanged = refl; full = omega (arith, ap length grown, length-append (book_of w).met (new s ∷ []), length_met w) }

-- ---- one log less

pub less_is : (o : ℕ) → o - 1 ≡ less o
less_is zero = omega arith
less_is (suc n) = omega arith

-- ---- one part after another

pub after : (w w₁ w₂ : List ℕ) (b : Book) (f : Book → Book) → MakesBook w w₁ b → MakesBook w₁ w₂ (f (book_of w₁)) → MakesBook w w₂ (f b)
after w w₁ w₂ b f x y = record { book = y.book ∙ ap f x.book; ruled = y.ruled; rest = y.rest ∙ x.rest }
