-- Lists that are read from words at numbered places: what a search finds, and what a store changes. Assumes nothing.
use mathlib.Core.Path.{◌≡◌, refl, sym, ap, ◌∙◌}
use mathlib.Core.Bool.{Bool, true, false, cond, ◌&&◌, ◌||◌, true≢false}
use mathlib.Core.List.{List, [], ◌∷◌, ◌++◌}
use mathlib.Core.Option.{none}
use Prim.Native.Nat.{ℕ, zero, suc, ◌+◌, ◌<◌, ◌≤◌}
use native.Mathlib.Omega.{arith}
use lib.ListN.{length, get_or}
use lib.Dec.{ltb, leb}
use borrow.Author.Tests.{lt-ltb, le-ltb, ltb-true, ltb-false, le-leb, lt-leb, leb-true, eq-eqb, ne_eqb}
use Rattle.std.specs.Cmp.{first_so, second_so}
use Rattle.model_active.specs.CatchUp.{Entry, member, sessions, opens_of, compared_of, on_entry}
use Rattle.active_books_area.specs.Words.{list_from, books_allowed}
use Rattle.active_books_area.specs.Parts.{BooksRules}

-- ---- the rules

pub ruled_of : (w : List ℕ) → books_allowed w ≡ true → BooksRules w
unfolding books_allowed
ruled_of w e =
    let counts = second_so (leb 1286 (length w)) (leb (get_or w 0 0) 256 && leb (get_or w 1 0) 256) e in
    record {
      long = leb-true 1286 (length w) (first_so (leb 1286 (length w)) (leb (get_or w 0 0) 256 && leb (get_or w 1 0) 256) e);
      few = leb-true (get_or w 0 0) 256 (first_so (leb (get_or w 0 0) 256) (leb (get_or w 1 0) 256) counts);
      few_behind = leb-true (get_or w 1 0) 256 (second_so (leb (get_or w 0 0) 256) (leb (get_or w 1 0) 256) counts);
    }

-- the two counts decide it where the area is long enough
pub by_counts : (w : List ℕ) → 1286 ≤ length w → (leb (get_or w 0 0) 256 && leb (get_or w 1 0) 256) ≡ books_allowed w
unfolding books_allowed
by_counts w long = sym (ap (λ (b : Bool). b && (leb (get_or w 0 0) 256 && leb (get_or w 1 0) 256)) (le-leb 1286 (length w) long))

pub allowed_of : (w : List ℕ) → BooksRules w → books_allowed w ≡ true
allowed_of w r = sym (by_counts w r.long) ∙ ap (λ (b : Bool). b && leb (get_or w 1 0) 256) (le-leb (get_or w 0 0) 256 r.few) ∙ le-leb (get_or w 1 0) 256 r.few_behind

pub too_short : (w : List ℕ) → length w < 1286 → false ≡ books_allowed w
unfolding books_allowed
too_short w short = sym (ap (λ (b : Bool). b && (leb (get_or w 0 0) 256 && leb (get_or w 1 0) 256)) (lt-leb 1286 (length w) short))

-- ---- lists from numbered places

module _ {A : Type 0} where
  pub length_from : (f : ℕ → A) (i n : ℕ) → length (list_from f i n) ≡ n
  length_from f i zero = refl
  length_from f i (suc n) = ap suc (length_from f (suc i) n)

  pub from_alike : (f g : ℕ → A) (i n : ℕ) → ((k : ℕ) → i ≤ k → k < i + n → f k ≡ g k) → list_from f i n ≡ list_from g i n
  from_alike f g i zero e = refl
  from_alike f g i (suc n) e =
      let here : f i ≡ g i = e i (omega arith) (omega arith) in
      let rest : list_from f (suc i) n ≡ list_from g (suc i) n = from_alike f g (suc i) n (λ k a b. e k (omega arith) (omega arith)) in
      λ j. here j ∷ rest j

  pub from_snoc : (f : ℕ → A) (i n : ℕ) → list_from f i (suc n) ≡ list_from f i n ++ (f (i + n) ∷ [])
  from_snoc f i zero = let z : i ≡ i + 0 = omega arith in ap (λ (k : ℕ). f k ∷ []) z
  from_snoc f i (suc n) =
      let next : suc i + n ≡ i + suc n = omega arith in
      ap (λ (l : List A). f i ∷ l) (from_snoc f (suc i) n) ∙ ap (λ (k : ℕ). f i ∷ (list_from f (suc i) n ++ (f k ∷ []))) next

pub sessions_from : (e : ℕ → Entry) (i n : ℕ) → sessions (list_from e i n) ≡ list_from (λ k. (e k).session) i n
sessions_from e i zero = refl
sessions_from e i (suc n) = ap (λ (l : List ℕ). (e i).session ∷ l) (sessions_from e (suc i) n)

-- ---- what a search finds: s stands first at r, or r is the end

module _ (s r : ℕ) where
  pub record First (f : ℕ → ℕ) (i n : ℕ) : Type 0 where
    pub low : i ≤ r
    pub high : r ≤ i + n
    pub before : (k : ℕ) → i ≤ k → k < r → f k ≡ s → ⊥
    pub there : r < i + n → f r ≡ s

  pub next_first : (f : ℕ → ℕ) (i n : ℕ) → i < r → First f i (suc n) → First f (suc i) n
  next_first f i n less p = record { low = less; high = omega (arith, p.high); before = λ k a b. p.before k (omega arith) b; there = λ a. p.there (omega arith) }

  pub member_first : (f : ℕ → ℕ) (i n : ℕ) → First f i n → member s (list_from f i n) ≡ ltb r (i + n)
  member_first f i zero p = sym (le-ltb r (i + 0) (omega (arith, p.low)))
  member_first f i (suc n) p = go (ltb i r) refl (λ less. member_first f (suc i) n (next_first f i n less p))
    where
      go : (b : Bool) → ltb i r ≡ b → (i < r → member s (list_from f (suc i) n) ≡ ltb r (suc i + n)) → member s (list_from f i (suc n)) ≡ ltb r (i + suc n)
      go true e rest =
          let less : i < r = ltb-true i r e in
          let sum : suc i + n ≡ i + suc n = omega arith in
          ap (λ (b : Bool). b || member s (list_from f (suc i) n)) (ne_eqb s (f i) (λ q. p.before i (omega arith) less (sym q))) ∙ rest less ∙ ap (ltb r) sum
      go false e rest =
          let same : r ≡ i = omega (arith, ltb-false i r e, p.low) in
          let inside : r < i + suc n = omega arith in
          ap (λ (b : Bool). b || member s (list_from f (suc i) n)) (eq-eqb s (f i) (sym (p.there inside) ∙ ap f same)) ∙ sym (lt-ltb r (i + suc n) inside)

  pub entry_first : (e : ℕ → Entry) (i n : ℕ) → First (λ k. (e k).session) i n
      → (opens_of s (list_from e i n) ≡ cond (ltb r (i + n)) (e r).opens 0) × (compared_of s (list_from e i n) ≡ cond (ltb r (i + n)) (e r).compared none)
  entry_first e i zero p =
      let end = le-ltb r (i + 0) (omega (arith, p.low)) in
      (ap (λ (b : Bool). cond b (e r).opens 0) (sym end), ap (λ (b : Bool). cond b (e r).compared none) (sym end))
  entry_first e i (suc n) p = go (ltb i r) refl (λ less. entry_first e (suc i) n (next_first (λ k. (e k).session) i n less p))
    where
      go : (b : Bool) → ltb i r ≡ b
          → (i < r → (opens_of s (list_from e (suc i) n) ≡ cond (ltb r (suc i + n)) (e r).opens 0) × (compared_of s (list_from e (suc i) n) ≡ cond (ltb r (suc i + n)) (e r).compared none))
          → (opens_of s (list_from e i (suc n)) ≡ cond (ltb r (i + suc n)) (e r).opens 0) × (compared_of s (list_from e i (suc n)) ≡ cond (ltb r (i + suc n)) (e r).compared none)
      go true q rest =
          let less : i < r = ltb-true i r q in
          let sum : suc i + n ≡ i + suc n = omega arith in
          let other = ne_eqb s (e i).session (λ q. p.before i (omega arith) less (sym q)) in (
            ap (λ (b : Bool). cond b (e i).opens (opens_of s (list_from e (suc i) n))) other ∙ (rest less).0 ∙ ap (λ (m : ℕ). cond (ltb r m) (e r).opens 0) sum,
            ap (λ (b : Bool). cond b (e i).compared (compared_of s (list_from e (suc i) n))) other ∙ (rest less).1 ∙ ap (λ (m : ℕ). cond (ltb r m) (e r).compared none) sum,
          )
      go false q rest =
          let same : r ≡ i = omega (arith, ltb-false i r q, p.low) in
          let inside : r < i + suc n = omega arith in
          let hit = eq-eqb s (e i).session (sym (p.there inside) ∙ ap (λ (k : ℕ). (e k).session) same) in
          let in_it = lt-ltb r (i + suc n) inside in (
            ap (λ (b : Bool). cond b (e i).opens (opens_of s (list_from e (suc i) n))) hit ∙ ap (λ (k : ℕ). (e k).opens) (sym same) ∙ ap (λ (b : Bool). cond b (e r).opens 0) (sym in_it),
            ap (λ (b : Bool). cond b (e i).compared (compared_of s (list_from e (suc i) n))) hit ∙ ap (λ (k : ℕ). (e k).compared) (sym same) ∙ ap (λ (b : Bool). cond b (e r).compared none) (sym in_it),
          )

  -- the entry at r is changed, no other
  pub changed : (e g : ℕ → Entry) (h : Entry → Entry) (i n : ℕ) → First (λ k. (e k).session) i n → r < i + n → g r ≡ h (e r) → ((k : ℕ) → i ≤ k → k < i + n → (k ≡ r → ⊥) → g k ≡ e k)
      → list_from g i n ≡ on_entry s h (list_from e i n)
  changed e g h i zero p in_it at others = absurd (let no : ⊥ = omega (arith, p.low, in_it) in no)
  changed e g h i (suc n) p in_it at others =
      go (ltb i r) refl (λ less. changed e g h (suc i) n (next_first (λ k. (e k).session) i n less p) (omega arith) at (λ k a b ne. others k (omega arith) (omega arith) ne))
    where
      go : (b : Bool) → ltb i r ≡ b → (i < r → list_from g (suc i) n ≡ on_entry s h (list_from e (suc i) n)) → list_from g i (suc n) ≡ on_entry s h (list_from e i (suc n))
      go true q rest =
          let less : i < r = ltb-true i r q in
          let here : g i ≡ e i = others i (omega arith) (omega arith) (λ z. omega arith) in
          let more = rest less in
          (λ j. here j ∷ more j) ∙ ap (λ (b : Bool). cond b (h (e i) ∷ list_from e (suc i) n) (e i ∷ on_entry s h (list_from e (suc i) n))) (sym (ne_eqb s (e i).session (λ q. p.before i (omega arith) less (sym q))))
      go false q rest =
          let same : r ≡ i = omega (arith, ltb-false i r q, p.low) in
          let here : g i ≡ h (e i) = ap g (sym same) ∙ at ∙ ap (λ (k : ℕ). h (e k)) same in
          let more = from_alike g e (suc i) n (λ k a b. others k (omega arith) (omega arith) (λ z. omega arith)) in
          (λ j. here j ∷ more j) ∙ ap (λ (b : Bool). cond b (h (e i) ∷ list_from e (suc i) n) (e i ∷ on_entry s h (list_from e (suc i) n))) (sym (eq-eqb s (e i).session (sym (p.there in_it) ∙ ap (λ (k : ℕ). (e k).session) same)))
