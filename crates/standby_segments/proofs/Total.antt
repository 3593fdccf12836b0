-- The laws of a closed segment: its changes take all of its bytes, and bytes that are all changes are just those. Assumes nothing.
use mathlib.Core.Path.{◌≡◌, refl, ap, ◌∙◌}
use mathlib.Core.List.{List, [], ◌∷◌}
use Prim.Native.Nat.{ℕ, zero, suc, ◌+◌, ◌≤◌, ◌<◌}
use native.Mathlib.Omega.{arith}
use lib.Dec.{T}
use lib.ListN.{length, drop}
use Rattle.model_frame.specs.Bytes.{is_bytes}
use Rattle.model_frame.specs.Frame.{Change, Fault, reset}
use Rattle.model_frame.specs.Parse.{Res, ok, bad, item_then, collect, Each}
use Rattle.model_frame.specs.Reading.{read_change}
use Rattle.model_frame.specs.Sizes.{size_of, sizes}
use Rattle.model_frame.proofs.Le.{bytes_drop}
use Rattle.model_frame.proofs.Runs.{size_positive, change_shorter}
use Rattle.model_frame.proofs.SoundChange.{TakenChange, change_sound}
use Rattle.frame_op.specs.Answers.{held_run}
use Rattle.standby_changes.specs.Held.{TakesAll}
use Rattle.standby_segments.specs.Segments.{or_reset, total_from, total_run}

module _ (version : ℕ) where
  total_size : (n : ℕ) (s : List ℕ) → T (is_bytes s) → length s ≤ n → sizes (total_from version n s) ≡ length s
  unfolding total_from
  total_size zero s h l = omega (arith, l)
  total_size (suc n) [] h l = refl
  total_size (suc n) (b ∷ bs) h l = go (read_change version (b ∷ bs)) refl (λ t. total_size n t)
    where
      go : (r : Res Change) → read_change version (b ∷ bs) ≡ r → ((t : List ℕ) → T (is_bytes t) → length t ≤ n → sizes (total_from version n t) ≡ length t)
          → sizes (or_reset r (b ∷ bs) (total_from version n)) ≡ length (b ∷ bs)
      go (ok c t) e ih =
          let q = change_shorter version (b ∷ bs) h e in
          let p = change_sound version (b ∷ bs) h e in
          omega (arith, q.0, ih t p.2 (omega (arith, q.1, l)))
      go (bad f) e ih = omega (arith, ih bs (bytes_drop 1 (b ∷ bs) h) (omega (arith, l)))

  -- a limit on the number of changes doesn't bite if it is as great as the number of bytes
  total_enough : (n m : ℕ) (s : List ℕ) → T (is_bytes s) → length s ≤ n → length s ≤ m → total_from version n s ≡ total_from version m s
  unfolding total_from
  total_enough zero zero s h p q = refl
  total_enough zero (suc m) [] h p q = refl
  total_enough zero (suc m) (b ∷ bs) h p q = absurd (no p)
    where
      no : suc (length bs) ≤ 0 → ⊥
      no e = omega (arith, e)
  total_enough (suc n) zero [] h p q = refl
  total_enough (suc n) zero (b ∷ bs) h p q = absurd (no q)
    where
      no : suc (length bs) ≤ 0 → ⊥
      no e = omega (arith, e)
  total_enough (suc n) (suc m) [] h p q = refl
  total_enough (suc n) (suc m) (b ∷ bs) h p q = go (read_change version (b ∷ bs)) refl (λ t. total_enough n m t)
    where
      go : (r : Res Change) → read_change version (b ∷ bs) ≡ r
          → ((t : List ℕ) → T (is_bytes t) → length t ≤ n → length t ≤ m → total_from version n t ≡ total_from version m t)
          → or_reset r (b ∷ bs) (total_from version n) ≡ or_reset r (b ∷ bs) (total_from version m)
      go (ok c t) e ih =
          let w = change_shorter version (b ∷ bs) h e in
          let o = change_sound version (b ∷ bs) h e in
          ap (λ (cs : List Change). c ∷ cs) (ih t o.2 (omega (arith, w.1, p)) (omega (arith, w.1, q)))
      go (bad f) e ih = ap (λ (cs : List Change). reset ∷ cs) (ih bs (bytes_drop 1 (b ∷ bs) h) (omega (arith, p)) (omega (arith, q)))

  total_same : (n : ℕ) (s : List ℕ) → T (is_bytes s) → length s ≤ n → sizes (collect n (read_change version) s) ≡ length s
      → total_from version n s ≡ collect n (read_change version) s
  unfolding total_from collect
  total_same zero s h l all = refl
  total_same (suc n) [] h l all = none (item_then (read_change version []) (collect n (read_change version))) all
    where
      none : (cs : List Change) → sizes cs ≡ 0 → [] ≡ cs
      none [] e = refl
      none (c ∷ cs) e = absurd (no e)
        where
          no : size_of c + sizes cs ≡ 0 → ⊥
          no e = omega (arith, e, size_positive c)
  total_same (suc n) (b ∷ bs) h l all = go (read_change version (b ∷ bs)) refl (λ t. total_same n t) all
    where
      go : (r : Res Change) → read_change version (b ∷ bs) ≡ r
          → ((t : List ℕ) → T (is_bytes t) → length t ≤ n → sizes (collect n (read_change version) t) ≡ length t → total_from version n t ≡ collect n (read_change version) t)
          → sizes (item_then r (collect n (read_change version))) ≡ length (b ∷ bs) → or_reset r (b ∷ bs) (total_from version n) ≡ item_then r (collect n (read_change version))
      go (ok c t) e ih all =
          let q = change_shorter version (b ∷ bs) h e in
          let p = change_sound version (b ∷ bs) h e in
          ap (λ (cs : List Change). c ∷ cs) (ih t p.2 (omega (arith, q.1, l)) (omega (arith, q.0, all)))
      go (bad f) e ih all = absurd (no all)
        where
          no : 0 ≡ suc (length bs) → ⊥
          no e = omega (arith, e)

  total_taken_from : (n : ℕ) (s : List ℕ) → T (is_bytes s) → Each (TakenChange version) (total_from version n s)
  unfolding total_from
  total_taken_from zero s h = tt
  total_taken_from (suc n) [] h = tt
  total_taken_from (suc n) (b ∷ bs) h = go (read_change version (b ∷ bs)) refl (λ t. total_taken_from n t)
    where
      go : (r : Res Change) → read_change version (b ∷ bs) ≡ r → ((t : List ℕ) → T (is_bytes t) → Each (TakenChange version) (total_from version n t))
          → Each (TakenChange version) (or_reset r (b ∷ bs) (total_from version n))
      go (ok c t) e ih =
          let p = change_sound version (b ∷ bs) h e in
          (p.1, ih t p.2)
      go (bad f) e ih = (((tt, refl), tt), ih bs (bytes_drop 1 (b ∷ bs) h))

  -- ---- a closed segment

  module _ (s : List ℕ) (h : T (is_bytes s)) where
    -- THEY TAKE ALL OF ITS BYTES
    pub total_sizes : sizes (total_run version s) ≡ length s
    unfolding total_run
    total_sizes = total_size (length s) s h (omega arith)

    -- BYTES THAT ARE ALL CHANGES mean in a closed segment what they mean in the open one
    pub total_held : TakesAll version s → total_run version s ≡ held_run version s
    unfolding total_run held_run
    total_held all = total_same (length s) s h (omega arith) all

    -- each can be sent
    pub total_taken : Each (TakenChange version) (total_run version s)
    unfolding total_run
    total_taken = total_taken_from (length s) s h

    -- one change after the other; at A BYTE AT WHICH NONE CAN BE READ it is a Reset, and the next begins one byte on
    pub total_more : {c : Change} {t : List ℕ} → read_change version s ≡ ok c t → total_run version s ≡ c ∷ total_run version t
    unfolding total_run total_from
    total_more {c} {t} e = by s refl h (change_shorter version s h e).1 e
      where
        by : (l : List ℕ) → s ≡ l → T (is_bytes l) → length t < length l → read_change version l ≡ ok c t → total_from version (length l) l ≡ c ∷ total_from version (length t) t
        by [] w b less q = absurd (no less)
          where
            no : length t < 0 → ⊥
            no e = omega (arith, e)
        by (x ∷ xs) w b less q =
            ap (λ (r : Res Change). or_reset r (x ∷ xs) (total_from version (length xs))) q
            ∙ ap (λ (cs : List Change). c ∷ cs) (total_enough (length xs) (length t) t (change_sound version (x ∷ xs) b q).2 (omega (arith, less)) (omega arith))

    pub total_bad : {f : Fault} → read_change version s ≡ bad f → 0 < length s → total_run version s ≡ reset ∷ total_run version (drop 1 s)
    unfolding total_run total_from
    total_bad {f} e some = by s e some
      where
        by : (l : List ℕ) → read_change version l ≡ bad f → 0 < length l → total_from version (length l) l ≡ reset ∷ total_from version (length (drop 1 l)) (drop 1 l)
        by [] q less = absurd (no less)
          where
            no : 0 < 0 → ⊥
            no e = omega (arith, e)
        by (x ∷ xs) q less = ap (λ (r : Res Change). or_reset r (x ∷ xs) (total_from version (length xs))) q

  pub total_none : (s : List ℕ) → length s ≤ 0 → total_run version s ≡ []
  unfolding total_run total_from
  total_none [] h = refl
  total_none (x ∷ xs) h = absurd (no h)
    where
      no : suc (length xs) ≤ 0 → ⊥
      no e = omega (arith, e)
