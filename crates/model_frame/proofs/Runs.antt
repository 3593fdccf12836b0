-- Changes one after the other, as a hold area has them: read back, told apart, and read as far as they go. Assumes nothing.
use mathlib.Core.Path.{◌≡◌, refl, sym, ap, ◌∙◌}
use mathlib.Core.Bool.{true}
use mathlib.Core.List.{List, [], ◌∷◌, ◌++◌, append_assoc, append-nil}
use Prim.Native.Nat.{ℕ, zero, suc, ◌+◌, ◌-◌, ◌≤◌, ◌<◌}
use native.Mathlib.Nat.{zero-add, suc-add, not-suc-le-zero}
use native.Mathlib.Omega.{arith}
use lib.Dec.{T}
use lib.ListN.{length, drop, length-append}
use lib.Seq.{drop_at, drop-drop}
use Rattle.model_frame.proofs.Sendable.{Sendable}
use Rattle.model_frame.specs.Bytes.{is_bytes}
use Rattle.model_frame.specs.Frame.{Change, set_incoming, set_incoming_in_flight, set_in_flight, record_msg, record_bare, reset, set_created_at, set_marks}
use Rattle.model_frame.specs.Parse.{Res, ok, bad, read_bytes, read_num, many, item_then, collect, run_bytes, Each}
use Rattle.model_frame.specs.Reading.{read_change}
use Rattle.model_frame.specs.Writing.{change_bytes, all_fine, RangedChange}
use Rattle.model_frame.specs.Sizes.{size_of, sizes}
use Rattle.model_frame.proofs.RoundTrip.{change_back, changes_back, each_sendable}
use Rattle.model_frame.proofs.SoundChange.{TakenChange, change_sound}
use Rattle.model_frame.proofs.Sizes.{change_size}
use Rattle.model_frame.proofs.Grow.{change_grows}

-- ---- two runs, one after the other

pub run_append : {A : Type 0} (f : A → List ℕ) (xs ys : List A) → run_bytes f (xs ++ ys) ≡ run_bytes f xs ++ run_bytes f ys
unfolding run_bytes
run_append f [] ys = refl
run_append f (x ∷ xs) ys = rw (run_append f xs ys) (sym (append_assoc (f x) (run_bytes f xs) (run_bytes f ys)))

pub sizes_append : (cs ds : List Change) → sizes (cs ++ ds) ≡ sizes cs + sizes ds
sizes_append [] ds = omega arith
sizes_append (c ∷ cs) ds = omega (arith, sizes_append cs ds)

pub size_positive : (c : Change) → 1 ≤ size_of c
size_positive (set_incoming n) = omega arith
size_positive (set_incoming_in_flight n f) = omega arith
size_positive (set_in_flight f) = omega arith
size_positive (record_msg n m) = omega arith
size_positive (record_bare n) = omega arith
size_positive reset = omega arith
size_positive (set_created_at t) = omega arith
size_positive (set_marks m) = omega arith

-- a run has at most as many changes as bytes
pub count_sizes : (cs : List Change) → length cs ≤ sizes cs
count_sizes [] = omega arith
count_sizes (c ∷ cs) = omega (arith, size_positive c, count_sizes cs)

-- these changes were read from bytes, and stand at their start
pub record Stands (version : ℕ) (s : List ℕ) (cs : List Change) : Type 0 where
  pub taken : Each (TakenChange version) cs
  pub front : s ≡ run_bytes change_bytes cs ++ drop (sizes cs) s

module _ (version : ℕ) where
  -- ---- a run of known length

  pub many_changes :
      (cs : List Change) (rest : List ℕ) → Each RangedChange cs → all_fine version cs ≡ true → many (length cs) (read_change version) (run_bytes change_bytes cs ++ rest) ≡ ok cs rest
  many_changes cs rest r e = changes_back version cs rest (each_sendable version cs r e)

  -- what follows a change doesn't matter to it
  pub change_prefix : (s t : List ℕ) {c : Change} {s' : List ℕ} → read_change version s ≡ ok c s' → read_change version (s ++ t) ≡ ok c (s' ++ t)
  change_prefix s t e = (change_grows version).grows s t e

  -- no change's bytes begin another's
  pub change_unique :
      (c d : Change) (r t : List ℕ) → Sendable version c → Sendable version d → change_bytes c ++ r ≡ change_bytes d ++ t → (c ≡ d) × (r ≡ t)
  change_unique c d r t hc hd e =
      let p : ok c r ≡ ok d t = sym (change_back version c r hc) ∙ ap (read_change version) e ∙ change_back version d t hd in
      (cc, cc)

  -- ---- a run as far as it goes

  pub collect_run :
      (cs : List Change) (rest : List ℕ) (n : ℕ) → Each (Sendable version) cs →
      collect (length cs + n) (read_change version) (run_bytes change_bytes cs ++ rest) ≡ cs ++ collect n (read_change version) rest
  unfolding collect run_bytes
  collect_run [] rest n h = rw (zero-add n)
  collect_run (c ∷ cs) rest n h = rw (suc-add, append_assoc, change_back version c (run_bytes change_bytes cs ++ rest) h.0, collect_run cs rest n h.1)

  pub collect_empty : (n : ℕ) → collect n (read_change version) [] ≡ []
  unfolding collect read_change read_num read_bytes
  collect_empty zero = refl
  collect_empty (suc n) = refl

  collect_no_bytes : (n : ℕ) (s : List ℕ) → length s ≤ 0 → collect n (read_change version) s ≡ []
  collect_no_bytes n [] h = collect_empty n
  collect_no_bytes n (x ∷ xs) h = absurd (not-suc-le-zero h)

  -- just the run: it is read whole, whatever the limit on its length, if that isn't below it
  pub collect_back : (cs : List Change) (n : ℕ) → Each (Sendable version) cs → length cs ≤ n → collect n (read_change version) (run_bytes change_bytes cs) ≡ cs
  collect_back cs n h fits =
      let k : length cs + (n - length cs) ≡ n = omega arith in
      rw append-nil at (rw (k, collect_empty, append-nil cs) at (collect_run cs [] (n - length cs) h))

  -- so runs are told apart by their bytes
  pub run_unique : (cs ds : List Change) → Each (Sendable version) cs → Each (Sendable version) ds → run_bytes change_bytes cs ≡ run_bytes change_bytes ds → cs ≡ ds
  run_unique cs ds hc hd e =
      let n : ℕ = length cs + length ds in
      sym (collect_back cs n hc (omega arith)) ∙ ap (collect n (read_change version)) e ∙ collect_back ds n hd (omega arith)

  -- a change that is read takes a byte at least
  pub change_shorter : (s : List ℕ) {c : Change} {t : List ℕ} → T (is_bytes s) → read_change version s ≡ ok c t → (length s ≡ size_of c + length t) × (length t < length s)
  change_shorter s {c} {t} h e =
      let q = change_sound version s h e in
      let l : length s ≡ size_of c + length t = ap length q.0 ∙ omega (arith, length-append (change_bytes c) t, change_size c) in
      (l, omega (arith, size_positive c))

  -- what is read as far as it goes can be sent, and stands at the start of the bytes
  pub collect_sound : (n : ℕ) (s : List ℕ) → T (is_bytes s) → Stands version s (collect n (read_change version) s)
  unfolding collect run_bytes
  collect_sound zero s h = record { taken = tt; front = refl }
  collect_sound (suc n) s h = go (λ t. collect_sound n t) (read_change version s) refl
    where
      go :
          ((t : List ℕ) → T (is_bytes t) → Stands version t (collect n (read_change version) t)) → (r : Res Change) → read_change version s ≡ r →
          Stands version s (item_then r (collect n (read_change version)))
      go next (bad x) e = record { taken = tt; front = refl }
      go next (ok c t) e =
          let q = change_sound version s h e in
          let cs : List Change = collect n (read_change version) t in
          let rest = next t q.2 in
          let behind : drop (size_of c) s ≡ t = ap (drop (size_of c)) q.0 ∙ drop_at (change_bytes c) t (size_of c) (change_size c) in
          let far : drop (size_of c + sizes cs) s ≡ drop (sizes cs) t = sym (drop-drop (sizes cs) (size_of c) s) ∙ ap (drop (sizes cs)) behind in
          record { taken = (q.1, rest.taken); front = q.0 ∙ ap (λ (l : List ℕ). change_bytes c ++ l) rest.front ∙ rw (far, append_assoc) }

  -- a limit on the number of changes doesn't bite if it is as great as the number of bytes
  pub collect_enough : (n m : ℕ) (s : List ℕ) → T (is_bytes s) → length s ≤ n → length s ≤ m → collect n (read_change version) s ≡ collect m (read_change version) s
  unfolding collect
  collect_enough zero m s h p q = sym (collect_no_bytes m s p)
  collect_enough (suc n) zero s h p q = collect_no_bytes (suc n) s q
  collect_enough (suc n) (suc m) s h p q = go (λ t. collect_enough n m t) (read_change version s) refl
    where
      go :
          ((t : List ℕ) → T (is_bytes t) → length t ≤ n → length t ≤ m → collect n (read_change version) t ≡ collect m (read_change version) t) → (r : Res Change) →
          read_change version s ≡ r → item_then r (collect n (read_change version)) ≡ item_then r (collect m (read_change version))
      go next (bad e) k = refl
      go next (ok c t) k =
          let l = change_shorter s h k in
          let b = change_sound version s h k in
          ap (λ (cs : List Change). c ∷ cs) (next t b.2 (omega arith) (omega arith))
