-- The loop over the pending commits: those left, run from here, are all run from the start. Assumes nothing.
use mathlib.Core.Path.{◌≡◌, refl, sym, ap, subst, ◌∙◌}
use mathlib.Core.List.{List, [], ◌∷◌, map}
use Prim.Native.Nat.{ℕ, suc, ◌+◌, ◌/◌, ◌≤◌, ◌<◌}
use native.Mathlib.Omega.{arith}
use native.Mathlib.Numerals.{add-one}
use lib.ListN.{length, take, drop, get_or, set, length-drop, drop_of_length-le}
use lib.Seq.{drop-cons, get_or-drop, get_or-take, length-take-le}
use Rattle.store_areas.specs.declared.Shape.{Shape}
use Rattle.store_areas.specs.Areas.{Rules}
use Rattle.standby_pending.specs.Pending.{count_of, commit_of, pending_of}
use Rattle.standby_pending_run.specs.Commits.{marked_at, marked_words, ran_words, Ran}
use Rattle.standby_pending_run.proofs.Head.{word_same}
use Rattle.standby_pending_run.proofs.Marking.{marked_front, marked_length, ran}

module _ (s : Shape) (b w₀ : List ℕ) where
  -- the words of the pending commits, and the commits from the i-th on
  abbrev commits : List ℕ
  commits = take (count_of w₀) (drop 2 w₀)

  abbrev from : ℕ → List (ℕ × ℕ)
  from i = map commit_of (drop i commits)

  pub record Running (w : List ℕ) (i : ℕ) : Type 0 where
    pub rules : Rules s w₀ b
    pub upto : i ≤ count_of w₀
    pub front : take 66 w ≡ take 66 w₀
    pub same_length : length w ≡ length w₀
    pub left : marked_words s (get_or w₀ 0 0) (from i) w ≡ marked_words s (get_or w₀ 0 0) (pending_of w₀) w₀

  pub starts : Rules s w₀ b → Running w₀ 0
  unfolding pending_of
  starts r = record { rules = r; upto = omega arith; front = refl; same_length = refl; left = refl }

  many : Rules s w₀ b → length commits ≡ count_of w₀
  many r =
      let inside : count_of w₀ ≤ length (drop 2 w₀) = omega (arith, length-drop 2 w₀, r.pending, r.room.words_long) in
      length-take-le (count_of w₀) (drop 2 w₀) inside

  next : Rules s w₀ b → (i : ℕ) → i < count_of w₀ → from i ≡ commit_of (get_or w₀ (2 + i) 0) ∷ from (suc i)
  next r i h =
      let inside : i < length commits = omega (arith, many r) in
      ap (map commit_of) (drop-cons commits i 0 inside ∙ ap (λ (x : ℕ). x ∷ drop (suc i) commits) (get_or-take (count_of w₀) (drop 2 w₀) i 0 h ∙ get_or-drop 2 w₀ i 0))

  pub goes_on : (w w' : List ℕ) (i : ℕ) → Running w i → i < count_of w₀ → w' ≡ marked_at s (get_or w 0 0) (get_or w (2 + i) 0 / 4294967296) w → Running w' (i + 1)
  goes_on w w' i k h e =
      let u : ℕ = get_or w₀ 0 0 in
      let p : ℕ = get_or w₀ (2 + i) 0 / 4294967296 in
      let eu : get_or w 0 0 ≡ u = word_same 0 w₀ w k.front (omega arith) in
      let ei : get_or w (2 + i) 0 ≡ get_or w₀ (2 + i) 0 = word_same (2 + i) w₀ w k.front (omega (arith, k.rules.pending)) in
      let is : w' ≡ marked_at s u p w = e ∙ (λ j. marked_at s (eu j) (ei j / 4294967296) w) in
      record {
        rules = k.rules;
        upto = omega arith;
        front = ap (take 66) is ∙ marked_front s u p w ∙ k.front;
        same_length = ap length is ∙ marked_length s u p w ∙ k.same_length;
        left =
            ap (λ (j : ℕ). marked_words s u (from j) w') (add-one i)
            ∙ ap (marked_words s u (from (suc i))) is
            ∙ ap (λ (l : List (ℕ × ℕ)). marked_words s u l w) (sym (next k.rules i h))
            ∙ k.left;
      }

  pub ends : (w : List ℕ) (i : ℕ) → Running w i → count_of w₀ ≤ i → Ran s b w₀ (set w 1 0)
  unfolding ran_words
  ends w i k h =
      let past : length commits ≤ i = omega (arith, many k.rules) in
      let none : drop i commits ≡ [] = drop_of_length-le commits past in
      let all : w ≡ marked_words s (get_or w₀ 0 0) (pending_of w₀) w₀ = ap (λ (l : List ℕ). marked_words s (get_or w₀ 0 0) (map commit_of l) w) (sym none) ∙ k.left in
      subst (Ran s b w₀) (sym (ap (λ (l : List ℕ). set l 1 0) all)) (ran s b w₀ k.rules)
