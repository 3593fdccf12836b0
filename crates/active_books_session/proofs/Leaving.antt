-- One session goes from those behind: the loop that moves the others up. Assumes nothing.
use mathlib.Core.Path.{◌≡◌, refl, sym, ap, subst, ◌∙◌}
use mathlib.Core.Bool.{Bool, true, false, cond}
use mathlib.Core.List.{List, [], ◌∷◌, ◌++◌}
use Prim.Native.Nat.{ℕ, ◌+◌, ◌<◌, ◌≤◌}
use native.Mathlib.Omega.{arith}
use native.Mathlib.Numerals.{add-one}
use lib.ListN.{length, get_or, set, drop, length-set}
use lib.Seq.{get_or-set_same, get_or-set_other, drop-set-lt}
use lib.Dec.{eqb}
use borrow.Author.Tests.{eq-eqb, ne_eqb}
use Rattle.model_active.specs.CatchUp.{without, behind_now}
use Rattle.active_books_area.specs.Words.{list_from, word_at, book_of}
use Rattle.active_books_area.specs.Parts.{BooksRules, MakesBook}
use Rattle.active_books_area.proofs.Laws.{from_alike, from_snoc}
use Rattle.active_books_area.proofs.Area.{on_behind}

without_snoc : (s y : ℕ) (xs : List ℕ) → without s (xs ++ (y ∷ [])) ≡ cond (eqb s y) (without s xs) (without s xs ++ (y ∷ []))
without_snoc s y [] = refl
without_snoc s y (x ∷ xs) = ap (λ (l : List ℕ). cond (eqb s x) l (x ∷ l)) (without_snoc s y xs) ∙ go (eqb s x) (eqb s y)
  where
    go : (a b : Bool) → cond a (cond b (without s xs) (without s xs ++ (y ∷ []))) (x ∷ cond b (without s xs) (without s xs ++ (y ∷ [])))
        ≡ cond b (cond a (without s xs) (x ∷ without s xs)) (cond a (without s xs) (x ∷ without s xs) ++ (y ∷ []))
    go true true = refl
    go true false = refl
    go false true = refl
    go false false = refl

-- of the first j those that stay are the first k now, and those after j are as they were
pub record Leaving (w₀ : List ℕ) (s m : ℕ) (w : List ℕ) (j k : ℕ) : Type 0 where
  pub size : length w ≡ length w₀
  pub upto : j ≤ m
  pub under : k ≤ j
  pub out : (i : ℕ) → i < 1030 → get_or w i 0 ≡ get_or w₀ i 0
  pub left : (i : ℕ) → j ≤ i → word_at w 1030 i ≡ word_at w₀ 1030 i
  pub stay : list_from (word_at w 1030) 0 k ≡ without s (list_from (word_at w₀ 1030) 0 j)
  pub rest : drop 1286 w ≡ drop 1286 w₀

zero_plus : (n : ℕ) → 0 + n ≡ n
zero_plus n = omega arith

more : (w₀ : List ℕ) (s j : ℕ) → without s (list_from (word_at w₀ 1030) 0 (j + 1)) ≡ cond (eqb s (word_at w₀ 1030 j)) (without s (list_from (word_at w₀ 1030) 0 j)) (without s (list_from (word_at w₀ 1030) 0 j) ++ (word_at w₀ 1030 j ∷ []))
more w₀ s j =
    ap (λ (n : ℕ). without s (list_from (word_at w₀ 1030) 0 n)) (add-one j)
    ∙ ap (without s) (from_snoc (word_at w₀ 1030) 0 j)
    ∙ ap (λ (n : ℕ). without s (list_from (word_at w₀ 1030) 0 j ++ (word_at w₀ 1030 n ∷ []))) (zero_plus j)
    ∙ without_snoc s (word_at w₀ 1030 j) (list_from (word_at w₀ 1030) 0 j)

pub goes : (w₀ : List ℕ) (s m : ℕ) (w : List ℕ) (j k : ℕ) → Leaving w₀ s m w j k → j < m → word_at w 1030 j ≡ s → Leaving w₀ s m w (j + 1) k
goes w₀ s m w j k l less e = record {
  size = l.size;
  upto = omega arith;
  under = omega (arith, l.under);
  out = l.out;
  left = λ i h. l.left i (omega arith);
  stay =
      l.stay ∙ sym (more w₀ s j ∙ ap (λ (b : Bool). cond b (without s (list_from (word_at w₀ 1030) 0 j)) (without s (list_from (word_at w₀ 1030) 0 j) ++ (word_at w₀ 1030 j ∷ [])))
      (eq-eqb s (word_at w₀ 1030 j) (sym e ∙ l.left j (omega arith))));
  rest = l.rest;
}

pub stays : (w₀ : List ℕ) (s m : ℕ) (w : List ℕ) (j k x : ℕ) → 1286 ≤ length w₀ → m ≤ 256 → Leaving w₀ s m w j k → j < m → x ≡ word_at w 1030 j → (x ≡ s → ⊥) → Leaving w₀ s m (set w (1030 + k) x) (j + 1) (k + 1)
stays w₀ s m w j k x long few l less is_x ne =
    let w' = set w (1030 + k) x in
    let inside : 1030 + k < length w = omega (arith, l.size, l.under) in
    let front : list_from (word_at w' 1030) 0 k ≡ list_from (word_at w 1030) 0 k = from_alike (word_at w' 1030) (word_at w 1030) 0 k (λ i a b. get_or-set_other w (1030 + k) (1030 + i) x 0 (λ q. omega arith)) in
    let last : word_at w' 1030 (0 + k) ≡ word_at w₀ 1030 j = ap (word_at w' 1030) (zero_plus k) ∙ get_or-set_same w (1030 + k) x 0 inside ∙ is_x ∙ l.left j (omega arith) in
    record {
      size = length-set w (1030 + k) x ∙ l.size;
      upto = omega arith;
      under = omega (arith, l.under);
      out = λ i h. get_or-set_other w (1030 + k) i x 0 (λ q. omega arith) ∙ l.out i h;
      left = λ i h. get_or-set_other w (1030 + k) (1030 + i) x 0 (λ q. omega (arith, l.under)) ∙ l.left i (omega arith);
      stay =
          ap (list_from (word_at w' 1030) 0) (add-one k) ∙ from_snoc (word_at w' 1030) 0 k ∙ (λ i. (front ∙ l.stay) i ++ (last i ∷ []))
          ∙ sym (more w₀ s j ∙ ap (λ (b : Bool). cond b (without s (list_from (word_at w₀ 1030) 0 j)) (without s (list_from (word_at w₀ 1030) 0 j) ++ (word_at w₀ 1030 j ∷ [])))
          (ne_eqb s (word_at w₀ 1030 j) (λ q. ne (is_x ∙ l.left j (omega arith) ∙ sym q))));
      rest = drop-set-lt 1286 w (1030 + k) x (omega (arith, l.under)) ∙ l.rest;
    }

pub left_now : (w₀ : List ℕ) (s : ℕ) (w : List ℕ) (j k : ℕ) → BooksRules w₀ → Leaving w₀ s (get_or w₀ 1 0) w j k → get_or w₀ 1 0 ≤ j → MakesBook w₀ (set w 1 k) (behind_now (book_of w₀) (without s (book_of w₀).behind))
unfolding book_of
left_now w₀ s w j k r l end =
    let w' = set w 1 k in
    let all : j ≡ get_or w₀ 1 0 = omega (arith, l.upto) in
    let inside : 1 < length w = omega (arith, l.size, r.long) in
    let count : get_or w' 1 0 ≡ k = get_or-set_same w 1 k 0 inside in
    on_behind w₀ w' (without s (list_from (word_at w₀ 1030) 0 (get_or w₀ 1 0))) r (length-set w 1 k ∙ l.size) (drop-set-lt 1286 w 1 k (omega arith) ∙ l.rest)
    (λ i h ne. get_or-set_other w 1 i k 0 ne ∙ l.out i h)
    (omega (arith, count, l.under, r.few_behind))
    (ap (list_from (word_at w' 1030) 0) count
    ∙ from_alike (word_at w' 1030) (word_at w 1030) 0 k (λ i a b. get_or-set_other w 1 (1030 + i) k 0 (λ q. omega arith))
    ∙ l.stay ∙ ap (λ (n : ℕ). without s (list_from (word_at w₀ 1030) 0 n)) all)

-- a turn, as the loop's two arms leave the words and the count
pub stays_on : (w₀ : List ℕ) (s m : ℕ) (w : List ℕ) (j k x : ℕ) → 1286 ≤ length w₀ → m ≤ 256 → Leaving w₀ s m w j k → j < m → x ≡ word_at w 1030 j → (x ≡ s → ⊥) → (w' : List ℕ) (k' : ℕ) → w' ≡ set w (1030 + k) x → k' ≡ k + 1 → Leaving w₀ s m w' (j + 1) k'
stays_on w₀ s m w j k x long few l less is_x ne w' k' a b = subst (λ (v : List ℕ). Leaving w₀ s m v (j + 1) k') (sym a) (subst (λ (n : ℕ). Leaving w₀ s m (set w (1030 + k) x) (j + 1) n) (sym b) (stays w₀ s m w j k x long few l less is_x ne))

pub goes_on : (w₀ : List ℕ) (s m : ℕ) (w : List ℕ) (j k : ℕ) → Leaving w₀ s m w j k → j < m → word_at w 1030 j ≡ s → (w' : List ℕ) (k' : ℕ) → w' ≡ w → k' ≡ k → Leaving w₀ s m w' (j + 1) k'
goes_on w₀ s m w j k l less e w' k' a b = subst (λ (v : List ℕ). Leaving w₀ s m v (j + 1) k') (sym a) (subst (λ (n : ℕ). Leaving w₀ s m w (j + 1) n) (sym b) (goes w₀ s m w j k l less e))
