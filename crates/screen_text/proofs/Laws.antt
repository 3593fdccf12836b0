-- What is added piece by piece is added together; how three texts are cut to a part's width; digits in threes. Assumes nothing.
use Rattle.std.proofs.Common.{◌≡◌, ℕ, suc, zero, ◌+◌, ◌-◌, ◌*◌, ◌≤◌, ◌<◌, min, Bool, true, false, cond, List, [], ◌∷◌, ◌++◌, length, get_or, take, drop, map, replicate, refl, sym, ap, ap₂, subst, ◌∙◌, arith, length-append, length-drop, append_assoc, append-nil, drop-cons, take_all, zero-add}
use native.Mathlib.Numerals.{unary_clauses, add-one}
use lib.Seq.{take-nil, length-take-le}
use Rattle.model_screen.specs.Columns.{visible, shown, part_width, break_before, column_after, flow, are_threes, with_commas}
use Rattle.std.specs.Prelude.{Ok, Err}
use Rattle.std.proofs.Math.Option.{none, some}
use borrow.Author.Tests.{le-leb, lt-leb}
use Rattle.base_refusals.specs.declared.Refusal.{Refusal}
use Rattle.model_frame.specs.Writing.{took}
use Rattle.base_laws.specs.Wrote.{Wrote}
use Rattle.screen_text.specs.Told.{text_outcome, Tells}
use Rattle.screen_text.specs.declared.text.Text.{Text}
use Rattle.screen_text.specs.Adding.{Has, Adds, Flows}

-- nothing is added
pub adds_none : {x : Text} → Adds x [] x
adds_none {x} = record { has = λ t h. subst (λ (l : List ℕ). Has x l) (sym (append-nil t)) h; long = refl; same = refl }

pub adds_on : {x y z : Text} {s t : List ℕ} → Adds x s y → Adds y t z → Adds x (s ++ t) z
adds_on {z = z} {s} {t} a b = record {
  has = λ u h. subst (λ (l : List ℕ). Has z l) (append_assoc u s t) (b.has (u ++ s) (a.has u h));
  long = b.long ∙ a.long;
  same = b.same ∙ a.same;
}

pub take_blanks : (n k : ℕ) → n ≤ k → take {A = ℕ} n (replicate k 32) ≡ replicate n 32
take_blanks zero k h = refl
take_blanks (suc n) zero h = absurd (no h)
  where
    no : suc n ≤ 0 → ⊥
    no h = omega arith
take_blanks (suc n) (suc k) h = ap (λ (l : List ℕ). 32 ∷ l) (take_blanks n k (omega (arith, h)))

pub began : (x : Text) → x.at ≡ 0 → Has x []
began x e = record { at = simp unary_clauses e; is = rw e (sym (take-nil (length x.out.now))) }

-- a text for which there is room
pub all_had : {x : Text} {t : List ℕ} → Has x t → length t ≤ length x.out.now → (x.at ≡ length t) × (take x.at x.out.now ≡ t)
all_had {x} {t} h l = (omega (arith, h.at, l), h.is ∙ take_all (length x.out.now) t l)

-- ---- a part as three texts

map_append : (f : ℕ → ℕ) (x y : List ℕ) → map f (x ++ y) ≡ map f x ++ map f y
map_append f [] y = refl
map_append f (a ∷ x) y = ap (λ (l : List ℕ). f a ∷ l) (map_append f x y)

-- the first n of two texts
cut : (n : ℕ) (x y : List ℕ) → take n (x ++ y) ≡ take (min (length x) n) x ++ take (n - min (length x) n) y
cut n [] y = simp unary_clauses refl
cut zero (a ∷ x) y = simp unary_clauses refl
cut (suc n) (a ∷ x) y = simp unary_clauses (ap (λ (l : List ℕ). a ∷ l) (cut n x y))

take_min : (n : ℕ) (l : List ℕ) → take n l ≡ take (min (length l) n) l
take_min n [] = simp unary_clauses (take-nil n)
take_min zero (a ∷ l) = simp unary_clauses refl
take_min (suc n) (a ∷ l) = simp unary_clauses (ap (λ (m : List ℕ). a ∷ m) (take_min n l))

map_length : (f : ℕ → ℕ) (l : List ℕ) → length (map f l) ≡ length l
map_length f [] = refl
map_length f (a ∷ l) = ap suc (map_length f l)

-- three texts, cut as the code cuts them
module _ (x y z : List ℕ) {i j k : ℕ} (ei : i ≡ min (length x) part_width) (ej : j ≡ min (length y) (part_width - length (take i x))) (ek : k ≡ min (length z) (part_width - length (take i x) - length (take j y))) where
  li : length (take i x) ≡ i
  li = length-take-le i x (omega (arith, ei))

  lj : length (take j y) ≡ j
  lj = length-take-le j y (omega (arith, ej))

  cut_all : take part_width (x ++ (y ++ z)) ≡ take i x ++ (take j y ++ take k z)
  cut_all =
      let fj : min (length y) (part_width - i) ≡ j = sym (ej ∙ ap (λ (n : ℕ). min (length y) (part_width - n)) li) in
      let fk : min (length z) (part_width - i - j) ≡ k = sym (ek ∙ ap₂ (λ (m n : ℕ). min (length z) (part_width - m - n)) li lj) in
      cut part_width x (y ++ z) ∙ ap (λ (n : ℕ). take n x ++ take (part_width - n) (y ++ z)) (sym ei)
      ∙ ap (λ (l : List ℕ). take i x ++ l)
      (cut (part_width - i) y z ∙ ap (λ (n : ℕ). take n y ++ take (part_width - i - n) z) fj
      ∙ ap (λ (l : List ℕ). take j y ++ l) (take_min (part_width - i - j) z ∙ ap (λ (n : ℕ). take n z) fk))

  whole : shown (x ++ (y ++ z)) ≡ map visible (take i x) ++ (map visible (take j y) ++ map visible (take k z))
  whole = ap (map visible) cut_all ∙ map_append visible (take i x) (take j y ++ take k z) ∙ ap (λ (l : List ℕ). map visible (take i x) ++ l) (map_append visible (take j y) (take k z))

  size : length (take i x) + length (take j y) + length (take k z) ≡ length (shown (x ++ (y ++ z)))
  size = sym (ap length whole ∙ simp (length-append, map_length) (omega arith))

  pub flowed : {t u v w r : Text} {column next : ℕ} → Adds t (break_before column (length (take i x) + length (take j y) + length (take k z))) u → Adds u (map visible (take i x)) v → Adds v (map visible (take j y)) w → Adds w (map visible (take k z)) r
      → next ≡ column_after column (length (take i x) + length (take j y) + length (take k z)) → Flows t column (x ++ (y ++ z)) r next
  flowed {t = t} {r = r} {column = column} b p q s e = record {
    adds = subst (λ (l : List ℕ). Adds t l r) (λ h. break_before column (size h) ++ sym whole h) (adds_on b (adds_on p (adds_on q s)));
    column = e ∙ ap (column_after column) size;
  }

-- ---- digits in threes

pub record Grouped (x : Text) (s : List ℕ) (i : ℕ) (y : Text) : Type 0 where
  pub done : List ℕ
  pub adds : Adds x done y
  pub rest : done ++ with_commas (drop i s) ≡ with_commas s

pub commas_short : (ds : List ℕ) → length (with_commas ds) ≤ 2 * length ds
commas_short [] = omega arith
commas_short (d ∷ ds) = go (are_threes (length ds)) (commas_short ds)
  where
    go : (t : Bool) → length (with_commas ds) ≤ 2 * length ds → length ((d ∷ cond t (44 ∷ []) []) ++ with_commas ds) ≤ 2 * length (d ∷ ds)
    go true h = omega (arith, h)
    go false h = omega (arith, h)

module _ {x : Text} {s : List ℕ} where
  -- a digit and what follows it
  pub grouped_on : {i : ℕ} {y z : Text} {e : List ℕ} → Grouped x s i y → i < length s → Adds y (get_or s i 0 ∷ []) z → {r : Text} → Adds z e r → e ≡ cond (are_threes (length s - i - 1)) (44 ∷ []) [] → Grouped x s (i + 1) r
  grouped_on {i} {e = e} g h p q is = record {
    done = g.done ++ (get_or s i 0 ∷ e);
    adds = adds_on g.adds (adds_on p q);
    rest = rw (add-one i)
        (let left : length s - i - 1 ≡ length (drop (suc i) s) = omega (arith, length-drop (suc i) s, h) in
        let there : with_commas (drop i s) ≡ (get_or s i 0 ∷ e) ++ with_commas (drop (suc i) s) =
        ap with_commas (drop-cons s i 0 h) ∙ ap (λ (l : List ℕ). (get_or s i 0 ∷ l) ++ with_commas (drop (suc i) s)) (sym (is ∙ ap (λ (n : ℕ). cond (are_threes n) (44 ∷ []) []) left)) in
        append_assoc g.done (get_or s i 0 ∷ e) (with_commas (drop (suc i) s)) ∙ ap (λ (l : List ℕ). g.done ++ l) (sym there) ∙ g.rest);
  }

-- ---- the parts of a line

pub flows_on : {x y z : Text} {column next : ℕ} {p q : List ℕ} (ps : List (List ℕ)) → Flows x column p y next → p ≡ q → Adds y (flow next ps) z → Adds x (flow column (q ∷ ps)) z
unfolding flow
flows_on {x} {y} {z} {column} ps f e a =
    subst (λ (r : List ℕ). Adds x (flow column (r ∷ ps)) z) e (adds_on f.adds (subst (λ (n : ℕ). Adds y (flow n ps) z) f.column a))

pub line_ends : {x y : Text} (column : ℕ) → Adds x (10 ∷ []) y → Adds x (flow column []) y
unfolding flow
line_ends column a = a

-- ---- telling

pub no_room : {t out : List ℕ} → length out < length t → Tells (some t) out out (Err Refusal.NoRoom)
unfolding text_outcome
no_room h = record { answer = rw (lt-leb _ _ h); area = rw (lt-leb _ _ h) }

pub told : {t out last : List ℕ} {n : ℕ} → length t ≤ length out → Wrote out 0 t last n → Tells (some t) out last (Ok n)
unfolding text_outcome
told h w = record { answer = rw (le-leb _ _ h) (ap took (w.past ∙ zero-add _)); area = rw (le-leb _ _ h) w.bytes }

pub unfit : {out : List ℕ} → Tells none out out (Err Refusal.RulesBroken)
unfolding text_outcome
unfit = record { answer = refl; area = refl }
