-- Several fall behind together: who falls is gathered first, then all join those behind. Assumes nothing.
use mathlib.Core.Path.{◌≡◌, refl, sym, ap, ◌∙◌}
use mathlib.Core.Bool.{Bool, true, false, cond, not, ◌&&◌}
use mathlib.Core.List.{List, [], ◌∷◌, ◌++◌, append_assoc}
use Prim.Native.Nat.{ℕ, ◌+◌, ◌<◌, ◌≤◌}
use native.Mathlib.Omega.{arith}
use native.Mathlib.Numerals.{add-one}
use lib.ListN.{length, get_or, take, length-append}
use Rattle.std.specs.Prelude.{filter}
use Rattle.std.proofs.lemmas.List.{take_more}
use Rattle.active_books_listing.proofs.Listing.{append_nil}
use Rattle.model_active.specs.CatchUp.{Entry, Book, member, sessions, met_that, listed, falling, behind_now}
use Rattle.active_books_area.specs.Words.{list_from, word_at, book_entry, book_of}
use Rattle.active_books_area.specs.Parts.{MakesBook}
use Rattle.active_books_falling.specs.Together.{fallen_listed}
use Rattle.active_books_area.proofs.Laws.{from_snoc}
use Rattle.active_books_area.proofs.Area.{length_behind}

-- ---- who falls

pub that_append : (q : Entry → Bool) (es fs : List Entry) → met_that q (es ++ fs) ≡ met_that q es ++ met_that q fs
that_append q [] fs = refl
that_append q (e ∷ es) fs = ap (λ (l : List ℕ). cond (q e) (e.session ∷ l) l) (that_append q es fs) ∙ go (q e)
  where
    go : (b : Bool) → cond b (e.session ∷ (met_that q es ++ met_that q fs)) (met_that q es ++ met_that q fs) ≡ cond b (e.session ∷ met_that q es) (met_that q es) ++ met_that q fs
    go true = refl
    go false = refl

pub filter_append : (p : ℕ → Bool) (xs ys : List ℕ) → filter p (xs ++ ys) ≡ filter p xs ++ filter p ys
filter_append p [] ys = refl
filter_append p (x ∷ xs) ys = ap (λ (l : List ℕ). cond (p x) (x ∷ l) l) (filter_append p xs ys) ∙ go (p x)
  where
    go : (b : Bool) → cond b (x ∷ (filter p xs ++ filter p ys)) (filter p xs ++ filter p ys) ≡ cond b (x ∷ filter p xs) (filter p xs) ++ filter p ys
    go true = refl
    go false = refl

-- those met that are listed, by their sessions
pub falling_listed : (w l : List ℕ) (es : List Entry) → met_that (λ e. listed l e && not (member e.session (book_of w).behind)) es ≡ fallen_listed w l (sessions es)
falling_listed w l [] = refl
falling_listed w l (e ∷ es) = ap (λ (x : List ℕ). cond (member e.session l && not (member e.session (book_of w).behind)) (e.session ∷ x) x) (falling_listed w l es)

-- those met of whom p holds that aren't behind
abbrev pub falls_now : List ℕ → (Entry → Bool) → Entry → Bool
falls_now w p e = p e && not (member e.session (book_of w).behind)

-- of the first k entries these fall
pub record Falls (w : List ℕ) (p : Entry → Bool) (a : List ℕ) (k : ℕ) : Type 0 where
  pub few : length a ≤ k
  pub list : a ≡ met_that (falls_now w p) (list_from (book_entry w) 0 k)

one_more : (w : List ℕ) (p : Entry → Bool) (k : ℕ) → met_that (falls_now w p) (list_from (book_entry w) 0 (k + 1)) ≡ met_that (falls_now w p) (list_from (book_entry w) 0 k) ++ cond (falls_now w p (book_entry w k)) (word_at w 6 k ∷ []) []
one_more w p k =
    let z : 0 + k ≡ k = omega arith in
    ap (λ (n : ℕ). met_that (falls_now w p) (list_from (book_entry w) 0 n)) (add-one k) ∙ ap (met_that (falls_now w p)) (from_snoc (book_entry w) 0 k ∙ ap (λ (n : ℕ). list_from (book_entry w) 0 k ++ (book_entry w n ∷ [])) z)
    ∙ that_append (falls_now w p) (list_from (book_entry w) 0 k) (book_entry w k ∷ [])

pub falls_not : (w : List ℕ) (p : Entry → Bool) (a : List ℕ) (k : ℕ) {b : Bool} → Falls w p a k → b ≡ falls_now w p (book_entry w k) → b ≡ false → Falls w p a (k + 1)
falls_not w p a k f h out = record {
  few = omega (arith, f.few);
  list = f.list ∙ sym (one_more w p k ∙ ap (λ (b : Bool). met_that (falls_now w p) (list_from (book_entry w) 0 k) ++ cond b (word_at w 6 k ∷ []) []) (sym h ∙ out) ∙ append_nil (met_that (falls_now w p) (list_from (book_entry w) 0 k)));
}

pub falls_in : (w : List ℕ) (p : Entry → Bool) (a : List ℕ) (k : ℕ) {b : Bool} → Falls w p a k → b ≡ falls_now w p (book_entry w k) → b ≡ true → Falls w p (a ++ (word_at w 6 k ∷ [])) (k + 1)
falls_in w p a k f h inside = record {
  few = omega (arith, f.few, length-append a (word_at w 6 k ∷ []));
  list = ap (λ (l : List ℕ). l ++ (word_at w 6 k ∷ [])) f.list ∙ sym (one_more w p k ∙ ap (λ (b : Bool). met_that (falls_now w p) (list_from (book_entry w) 0 k) ++ cond b (word_at w 6 k ∷ []) []) (sym h ∙ inside));
}

pub fallen_of : (w : List ℕ) (p : Entry → Bool) (a : List ℕ) (k : ℕ) → Falls w p a k → k ≤ get_or w 0 0 → get_or w 0 0 ≤ k → a ≡ falling p (book_of w)
unfolding book_of
fallen_of w p a k f low high =
    let all : k ≡ get_or w 0 0 = omega arith in
    f.list ∙ ap (λ (n : ℕ). met_that (falls_now w p) (list_from (book_entry w) 0 n)) all

-- of the first k of some sessions these fall besides
pub record Listed (w l ss pre a : List ℕ) (k : ℕ) : Type 0 where
  pub few : length a ≤ length pre + k
  pub list : a ≡ pre ++ fallen_listed w l (take k ss)

-- ---- all who fall join those behind

pub record Pushing (w₀ a w : List ℕ) (i : ℕ) : Type 0 where
  pub makes : MakesBook w₀ w (behind_now (book_of w₀) ((book_of w₀).behind ++ take i a))
  pub count : get_or w 1 0 ≡ get_or w₀ 1 0 + i

pub pushes : (w₀ a w w' : List ℕ) (i : ℕ) → Pushing w₀ a w i → i < length a → MakesBook w w' (behind_now (book_of w) ((book_of w).behind ++ (get_or a i 0 ∷ []))) → Pushing w₀ a w' (i + 1)
pushes w₀ a w w' i g less p =
    let one = sym (length_behind w') ∙ ap (λ (b : Book). length b.behind) p.book ∙ length-append (book_of w).behind (get_or a i 0 ∷ []) in
    record {
      makes = record {
        book =
            p.book ∙ ap (λ (b : Book). behind_now b (b.behind ++ (get_or a i 0 ∷ []))) g.makes.book
            ∙ ap (λ (l : List ℕ). behind_now (book_of w₀) l)
            (append_assoc (book_of w₀).behind (take i a) (get_or a i 0 ∷ []) ∙ ap (λ (x : List ℕ). (book_of w₀).behind ++ x) (sym (take_more a i 0 less)));
        ruled = p.ruled;
        rest = p.rest ∙ g.makes.rest;
      };
      count = omega (arith, one, length_behind w, g.count);
    }
