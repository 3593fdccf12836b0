-- The entry ring: an entry put at the head stands in front of the newest M - 1 others. Assumes nothing.
use Rattle.std.proofs.Common.{◌≡◌, ℕ, zero, suc, ◌+◌, ◌-◌, ◌*◌, ◌<◌, ◌≤◌, ◌⊎◌, List, ◌∷◌, length, get_or, take, set, sym, refl, ap, ◌∙◌, inl, inr, add-one, arith, length-set, get_or-set_other, get_or-set_same, le-ltb, lt-ltb, le-leb}
use borrow.Author.Tests.{lt-leb}
use Rattle.store_log.specs.Log.{Entry, entry, entry_at, before, entries, newest, head_of, tail_of, slot_at}
use Rattle.store_log.proofs.Walk.{cmp}

take_entries : (w : List ℕ) (M f s : ℕ) → take f (entries w M (suc f) s) ≡ entries w M f s
take_entries w M zero s = refl
take_entries w M (suc f) s = ap (λ (t : List Entry). entry_at w (before M s) ∷ t) (take_entries w M f (before M s))

-- f steps back from s do not meet h
abbrev Clear : ℕ → ℕ → ℕ → ℕ → Type 0
Clear M h f s = ((s ≤ h) × (f + h + 1 ≤ s + M)) ⊎ ((h < s) × (f + h < s))

module _ (w v : List ℕ) (M h : ℕ) (hM : h < M) (same : (p : ℕ) → (p ≡ h → ⊥) → entry_at v p ≡ entry_at w p) where
  entries_clear : (f s : ℕ) → Clear M h f s → entries v M f s ≡ entries w M f s
  entries_clear zero s c = refl
  entries_clear (suc f) zero (inl c) = λ i. same (M - 1) (omega arith) i ∷ entries_clear f (M - 1) (inr (omega arith)) i
  entries_clear (suc f) zero (inr c) = absurd (omega arith)
  entries_clear (suc f) (suc s) (inl c) = λ i. same s (omega arith) i ∷ entries_clear f s (inl (omega arith)) i
  entries_clear (suc f) (suc s) (inr c) = λ i. same s (omega arith) i ∷ entries_clear f s (inr (omega arith)) i

pub head_lt : (M : ℕ) (w : List ℕ) → 0 < M → head_of M w < M
head_lt M w h = go (cmp M (get_or w 0 0))
  where
    go : (M ≤ get_or w 0 0) ⊎ (get_or w 0 0 < M) → head_of M w < M
    go (inl k) = simp (le-ltb (get_or w 0 0) M k) h
    go (inr k) = simp (lt-ltb (get_or w 0 0) M k) k

pub tail_le : (C : ℕ) (w : List ℕ) → tail_of C w ≤ C
tail_le C w = go (cmp (get_or w 1 0) C)
  where
    go : (get_or w 1 0 ≤ C) ⊎ (C < get_or w 1 0) → tail_of C w ≤ C
    go (inl k) = simp (le-leb (get_or w 1 0) C k) k
    go (inr k) = simp (lt-leb (get_or w 1 0) C k) (omega arith)

-- the slot before the head, where the head word is h + 1
before_head : (M h : ℕ) (v : List ℕ) → h < M → get_or v 0 0 ≡ h + 1 → before M (head_of M v) ≡ h
before_head M h v k e = go (cmp M (h + 1))
  where
    go : (M ≤ h + 1) ⊎ (h + 1 < M) → before M (head_of M v) ≡ h
    go (inl j) = rw e (simp (le-ltb (h + 1) M j) (omega arith))
    go (inr j) = rw e (simp (lt-ltb (h + 1) M j) (rw add-one))

-- the stores of `put_entry`
abbrev pub stored : List ℕ → ℕ → ℕ → ℕ → ℕ → List ℕ
stored w h end n k = set (set (set (set w 0 (h + 1)) 1 end) (2 + 2 * h) n) (3 + 2 * h) k

module _ (w : List ℕ) (h end n k : ℕ) (room : 4 + 2 * h ≤ length w) where
  w1 : List ℕ
  w1 = set w 0 (h + 1)

  w2 : List ℕ
  w2 = set w1 1 end

  w3 : List ℕ
  w3 = set w2 (2 + 2 * h) n

  stored_other : (j : ℕ) → 1 < j → (j ≡ 2 + 2 * h → ⊥) → (j ≡ 3 + 2 * h → ⊥) → get_or (stored w h end n k) j 0 ≡ get_or w j 0
  unfolding w1 w2 w3
  stored_other j a b c =
      get_or-set_other w3 (3 + 2 * h) j k 0 c ∙ get_or-set_other w2 (2 + 2 * h) j n 0 b
      ∙ get_or-set_other w1 1 j end 0 (λ e. omega arith) ∙ get_or-set_other w 0 j (h + 1) 0 (λ e. omega arith)

  stored_head : get_or (stored w h end n k) 0 0 ≡ h + 1
  unfolding w1 w2 w3
  stored_head =
      get_or-set_other w3 (3 + 2 * h) 0 k 0 (λ e. omega arith) ∙ get_or-set_other w2 (2 + 2 * h) 0 n 0 (λ e. omega arith)
      ∙ get_or-set_other w1 1 0 end 0 (λ e. omega arith) ∙ get_or-set_same w 0 (h + 1) 0 (omega arith)

  pub stored_tail : get_or (stored w h end n k) 1 0 ≡ end
  unfolding w1 w2 w3
  stored_tail =
      get_or-set_other w3 (3 + 2 * h) 1 k 0 (λ e. omega arith) ∙ get_or-set_other w2 (2 + 2 * h) 1 n 0 (λ e. omega arith)
      ∙ get_or-set_same w1 1 end 0 (simp length-set (omega arith))

  stored_entry : entry_at (stored w h end n k) h ≡ entry n k
  unfolding w1 w2 w3
  stored_entry =
      let a : get_or (stored w h end n k) (2 + 2 * h) 0 ≡ n =
      get_or-set_other w3 (3 + 2 * h) (2 + 2 * h) k 0 (λ e. omega arith) ∙ get_or-set_same w2 (2 + 2 * h) n 0 (simp length-set (omega arith)) in
      let b : get_or (stored w h end n k) (3 + 2 * h) 0 ≡ k = get_or-set_same w3 (3 + 2 * h) k 0 (simp length-set (omega arith)) in
      λ i. entry (a i) (b i)

  stored_same : (p : ℕ) → (p ≡ h → ⊥) → entry_at (stored w h end n k) p ≡ entry_at w p
  stored_same p ne =
      let a : get_or (stored w h end n k) (2 + 2 * p) 0 ≡ get_or w (2 + 2 * p) 0 = stored_other (2 + 2 * p) (omega arith) (λ e. ne (omega arith)) (λ e. omega arith) in
      let b : get_or (stored w h end n k) (3 + 2 * p) 0 ≡ get_or w (3 + 2 * p) 0 = stored_other (3 + 2 * p) (omega arith) (λ e. omega arith) (λ e. ne (omega arith)) in
      λ i. entry (a i) (b i)

  pub stored_newest : (M : ℕ) → h ≡ head_of M w → h < M → newest M (stored w h end n k) ≡ entry n k ∷ take (M - 1) (newest M w)
  stored_newest zero e l = absurd (omega arith)
  stored_newest (suc m) e l =
      let v : List ℕ = stored w h end n k in
      let p : before (suc m) (head_of (suc m) v) ≡ h = before_head (suc m) h v l stored_head in
      let m' : suc m - 1 ≡ m = omega arith in
      ap (λ (s : ℕ). entry_at v s ∷ entries v (suc m) m s) p
      ∙ (λ i. stored_entry i ∷ entries_clear w v (suc m) h l stored_same m h (inl (omega arith)) i)
      ∙ ap (λ (t : List Entry). entry n k ∷ t)
      (sym (ap (λ (s : ℕ). take (suc m - 1) (entries w (suc m) (suc m) s)) (sym e) ∙ ap (λ (f : ℕ). take f (entries w (suc m) (suc m) h)) m' ∙ take_entries w (suc m) m h))

-- ---- the i-th newest entry

pub slot_low : (M h i : ℕ) → i ≤ h → slot_at M h i ≡ h - i
slot_low M h i k = simp (le-leb i h k)

pub slot_high : (M h i : ℕ) → h < i → slot_at M h i ≡ h + M - i
slot_high M h i k = simp (lt-leb i h k)

slot_step : (M h i : ℕ) → h < M → i + 2 ≤ M → slot_at M (before M h) (suc i) ≡ slot_at M h (suc (suc i))
slot_step M zero i l k = slot_low M (M - 1) (suc i) (omega arith) ∙ sym (slot_high M zero (suc (suc i)) (omega arith) ∙ omega arith)
slot_step M (suc h) i l k = go (cmp (suc i) h)
  where
    go : (suc i ≤ h) ⊎ (h < suc i) → slot_at M h (suc i) ≡ slot_at M (suc h) (suc (suc i))
    go (inl j) = slot_low M h (suc i) j ∙ sym (slot_low M (suc h) (suc (suc i)) (omega arith) ∙ omega arith)
    go (inr j) = slot_high M h (suc i) j ∙ sym (slot_high M (suc h) (suc (suc i)) (omega arith) ∙ omega arith)

slot_one : (M h : ℕ) → h < M → slot_at M h 1 ≡ before M h
slot_one M zero l = slot_high M zero 1 (omega arith) ∙ omega arith
slot_one M (suc h) l = slot_low M (suc h) 1 (omega arith) ∙ omega arith

before_lt : (M h : ℕ) → h < M → before M h < M
before_lt M zero l = omega arith
before_lt M (suc h) l = omega arith

pub entry_at_lem : (w : List ℕ) (M f h i : ℕ) → h < M → f ≤ M → i < f → get_or (entries w M f h) i (entry 0 0) ≡ entry_at w (slot_at M h (suc i))
entry_at_lem w M zero h i l m k = absurd (omega arith)
entry_at_lem w M (suc f) h zero l m k = ap (entry_at w) (sym (slot_one M h l))
entry_at_lem w M (suc f) h (suc i) l m k = entry_at_lem w M f (before M h) i (before_lt M h l) (omega arith) (omega arith) ∙ ap (entry_at w) (slot_step M h i l (omega arith))
