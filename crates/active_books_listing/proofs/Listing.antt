-- All of a listing are met: what is gathered, and what is appended. Assumes nothing.
use mathlib.Core.Path.{◌≡◌, refl, sym, ap, subst, ◌∙◌}
use mathlib.Core.Bool.{Bool, true, false, cond, ◌||◌, true≢false}
use mathlib.Core.List.{List, [], ◌∷◌, ◌++◌, append_assoc}
use Prim.Native.Nat.{ℕ, zero, suc, ◌+◌, ◌<◌, ◌≤◌}
use native.Mathlib.Omega.{arith}
use native.Mathlib.Numerals.{add-one}
use lib.ListN.{length, get_or, take, drop, length-append, drop_of_length-le}
use lib.Seq.{drop-cons}
use lib.Dec.{eqb, ltb}
use Rattle.std.specs.Prelude.{map, Option, Some, None, is_some, unwrap_or, option_map}
use Rattle.std.specs.Option.{option_eq}
use denote.Ref.{Bor}
use Rattle.std.proofs.lemmas.List.{map-append, take_more}
use borrow.Author.Tests.{eq-eqb, eqb-true, ltb-true}
use Rattle.base_refusals.specs.declared.Refusal.{Refusal}
use Rattle.model_active.specs.CatchUp.{Entry, Book, member, sessions, new, meeting, met_now}
use Rattle.active_books_area.specs.Words.{book_of}
use Rattle.active_books_listing.specs.Listings.{KnownFirst, AreNew, NoRoom}
use Rattle.active_books_area.specs.Parts.{BooksRules, MakesBook, Appends}
use Rattle.active_books_area.proofs.Area.{length_met}

-- ---- members

member_append : (s : ℕ) (xs ys : List ℕ) → member s (xs ++ ys) ≡ (member s xs || member s ys)
member_append s [] ys = refl
member_append s (x ∷ xs) ys = ap (λ (b : Bool). eqb s x || b) (member_append s xs ys) ∙ go (eqb s x)
  where
    go : (a : Bool) → (a || (member s xs || member s ys)) ≡ ((a || member s xs) || member s ys)
    go true = refl
    go false = refl

sessions_append : (es fs : List Entry) → sessions (es ++ fs) ≡ sessions es ++ sessions fs
sessions_append [] fs = refl
sessions_append (e ∷ es) fs = ap (λ (l : List ℕ). e.session ∷ l) (sessions_append es fs)

-- the entry at a place
here : (l : List ℕ) (s p : ℕ) → p < length l → get_or l p 0 ≡ s → member s l ≡ true
here [] s p less e = absurd (let z : ⊥ = omega arith in z)
here (x ∷ l) s zero less e = ap (λ (b : Bool). b || member s l) (eq-eqb s x (sym e))
here (x ∷ l) s (suc p) less e = go (eqb s x) (here l s p (omega arith) e)
  where
    go : (b : Bool) → member s l ≡ true → (b || member s l) ≡ true
    go true r = refl
    go false r = r

pub listed_at : (l : List ℕ) (s p : ℕ) (r : Option (Bor ℕ)) (q : Bor ℕ) {b : Bool} → is_some r ≡ ltb p (length l) → ((d : ℕ) → unwrap_or (option_map (λ x. x.now) r) d ≡ get_or l p d) → q.now ≡ s
    → b ≡ option_eq (λ x y. eqb x.now y.now) r (Some q) → b ≡ true → b ≡ member s l
listed_at l s p (Some x) q some at is e t = t ∙ sym (here l s p (ltb-true p (length l) (sym some)) (sym (at 0) ∙ eqb-true x.now q.now (sym e ∙ t) ∙ is))
listed_at l s p None q some at is e t = absurd (true≢false (sym t ∙ e))

map_new : (xs : List ℕ) → sessions (map new xs) ≡ xs
map_new [] = refl
map_new (x ∷ xs) = ap (λ (l : List ℕ). x ∷ l) (map_new xs)

map_snoc : (xs : List ℕ) (x : ℕ) → map new (xs ++ (x ∷ [])) ≡ map new xs ++ (new x ∷ [])
map_snoc xs x = map-append new xs (x ∷ [])

length_new : (xs : List ℕ) → length (map new xs) ≡ length xs
length_new [] = refl
length_new (x ∷ xs) = ap suc (length_new xs)

pub sessions_new : (es : List Entry) (a : List ℕ) → sessions (es ++ map new a) ≡ sessions es ++ a
sessions_new es a = sessions_append es (map new a) ∙ ap (λ (l : List ℕ). sessions es ++ l) (map_new a)

-- met, or among those that are new
known : (es : List Entry) (a : List ℕ) (s : ℕ) → member s (sessions (es ++ map new a)) ≡ (member s (sessions es) || member s a)
known es a s = ap (member s) (sessions_append es (map new a)) ∙ member_append s (sessions es) (sessions (map new a)) ∙ ap (λ (l : List ℕ). member s (sessions es) || member s l) (map_new a)

-- ---- gathering those that are new

-- of the listing j are met, and these of them are new
pub record Gathering (w l a : List ℕ) (j : ℕ) : Type 0 where
  pub upto : j ≤ length l
  pub room : get_or w 0 0 + length a ≤ 256
  pub left : meeting l (book_of w).met ≡ meeting (drop j l) ((book_of w).met ++ map new a)

pub append_nil : {A : Type 0} (l : List A) → l ++ [] ≡ l
append_nil [] = refl
append_nil (x ∷ l) = ap (λ (r : List _). x ∷ r) (append_nil l)

grows : (l : List ℕ) (es : List Entry) → length es ≤ length (meeting l es)
grows [] es = omega arith
grows (s ∷ l) es = omega (arith, grows l (cond (member s (sessions es)) es (es ++ (new s ∷ []))), go (member s (sessions es)))
  where
    go : (b : Bool) → length es ≤ length (cond b es (es ++ (new s ∷ [])))
    go true = omega arith
    go false = omega (arith, length-append es (new s ∷ []))

module _ (w l a : List ℕ) (j : ℕ) (g : Gathering w l a j) (less : j < length l) {b : Bool} (asked : b ≡ (member (get_or l j 0) (sessions (book_of w).met) || member (get_or l j 0) a)) where
  one : meeting l (book_of w).met ≡ meeting (drop (j + 1) l) (cond b ((book_of w).met ++ map new a) (((book_of w).met ++ map new a) ++ (new (get_or l j 0) ∷ [])))
  one =
      let so_far = (book_of w).met ++ map new a in
      g.left ∙ ap (λ (x : List ℕ). meeting x so_far) (drop-cons l j 0 less ∙ ap (λ (n : ℕ). get_or l j 0 ∷ drop n l) (sym (add-one j)))
      ∙ ap (λ (b : Bool). meeting (drop (j + 1) l) (cond b so_far (so_far ++ (new (get_or l j 0) ∷ [])))) (known (book_of w).met a (get_or l j 0) ∙ sym asked)

  pub passes : b ≡ true → Gathering w l a (j + 1)
  passes t = record {
    upto = omega arith;
    room = g.room;
    left = one ∙ ap (λ (b : Bool). meeting (drop (j + 1) l) (cond b ((book_of w).met ++ map new a) (((book_of w).met ++ map new a) ++ (new (get_or l j 0) ∷ [])))) t;
  }

  one_new : b ≡ false → meeting l (book_of w).met ≡ meeting (drop (j + 1) l) (((book_of w).met ++ map new a) ++ (new (get_or l j 0) ∷ []))
  one_new f = one ∙ ap (λ (b : Bool). meeting (drop (j + 1) l) (cond b ((book_of w).met ++ map new a) (((book_of w).met ++ map new a) ++ (new (get_or l j 0) ∷ [])))) f

  pub takes : b ≡ false → get_or w 0 0 + length a < 256 → Gathering w l (a ++ (get_or l j 0 ∷ [])) (j + 1)
  takes f fits = record {
    upto = omega arith;
    room = omega (arith, length-append a (get_or l j 0 ∷ []));
    left =
        one_new f ∙ ap (meeting (drop (j + 1) l))
        (append_assoc (book_of w).met (map new a) (new (get_or l j 0) ∷ []) ∙ ap (λ (x : List Entry). (book_of w).met ++ x) (sym (map_snoc a (get_or l j 0))));
  }

  pub no_room : b ≡ false → 256 ≤ get_or w 0 0 + length a → NoRoom w l Refusal.TooManySessions
  no_room f full =
      let es = (book_of w).met ++ map new a in
      let size : length (es ++ (new (get_or l j 0) ∷ [])) ≡ get_or w 0 0 + length a + 1 =
      length-append es (new (get_or l j 0) ∷ []) ∙ ap (λ (n : ℕ). n + 1) (length-append (book_of w).met (map new a) ∙ (λ i. length_met w i + length_new a i)) in
      record { refusal = refl; full = omega (arith, grows (drop (j + 1) l) (es ++ (new (get_or l j 0) ∷ [])), size, ap length (one_new f)) }

pub gathered : (w l a : List ℕ) (j : ℕ) → Gathering w l a j → length l ≤ j → AreNew w l a
gathered w l a j g end = record { meets = g.left ∙ ap (λ (x : List ℕ). meeting x ((book_of w).met ++ map new a)) (drop_of_length-le l end); fit = g.room }

-- those met before
pub goes_on : (w l : List ℕ) (k : ℕ) (a : List ℕ) → BooksRules w → KnownFirst w l k → a ≡ [] → Gathering w l a k
goes_on w l k a r f e = subst (λ (x : List ℕ). Gathering w l x k) (sym e) (record { upto = f.upto; room = omega (arith, r.few); left = f.left ∙ ap (meeting (drop k l)) (sym (append_nil (book_of w).met)) })

-- ---- appending them

-- the first i of a are met
pub record Appending (w₀ a w : List ℕ) (i : ℕ) : Type 0 where
  pub makes : MakesBook w₀ w (met_now (book_of w₀) ((book_of w₀).met ++ map new (take i a)))
  pub count : get_or w 0 0 ≡ get_or w₀ 0 0 + i

pub appends : (w₀ a w w' : List ℕ) (i : ℕ) → Appending w₀ a w i → i < length a → Appends w w' (get_or a i 0) → Appending w₀ a w' (i + 1)
appends w₀ a w w' i g less p = record {
  makes = record {
    book =
        p.makes.book ∙ ap (λ (b : Book). met_now b (b.met ++ (new (get_or a i 0) ∷ []))) g.makes.book
        ∙ ap (λ (l : List Entry). met_now (book_of w₀) l)
        (append_assoc (book_of w₀).met (map new (take i a)) (new (get_or a i 0) ∷ [])
        ∙ ap (λ (x : List Entry). (book_of w₀).met ++ x) (sym (map_snoc (take i a) (get_or a i 0)) ∙ ap (map new) (sym (take_more a i 0 less))));
    ruled = p.makes.ruled;
    rest = p.makes.rest ∙ g.makes.rest;
  };
  count = omega (arith, p.count, g.count);
}
