-- Marking the session at a place, and the sessions of all pending commits. Assumes nothing.
use mathlib.Core.Path.{◌≡◌, refl, sym, ap, ◌∙◌}
use mathlib.Core.Logic.{◌⊎◌, inl, inr}
use mathlib.Core.Bool.{Bool, true, false, cond}
use mathlib.Core.List.{List, [], ◌∷◌}
use Prim.Native.Nat.{ℕ, zero, suc, ◌≤◌, ◌<◌}
use native.Mathlib.Omega.{arith}
use borrow.Author.Tests.{lt-ltb, le-ltb}
use lib.Dec.{ltb}
use lib.ListN.{length, take, get_or, set, length-set}
use lib.Seq.{take-set-le}
use Rattle.model_standby.specs.Store.{Stored, Place, on_place, mark_durable, mark_all}
use Rattle.store_log.proofs.Walk.{cmp}
use Rattle.store_place.specs.Only.{Only}
use Rattle.store_areas.specs.declared.Shape.{Shape}
use Rattle.store_areas.specs.Areas.{durable_at, Rules, places_of}
use Rattle.store_areas.proofs.Lifting.{places_length}
use Rattle.store_areas.proofs.Marking.{marked}
use Rattle.standby_pending.specs.Pending.{pending_of}
use Rattle.standby_pending.proofs.Laws.{cleared}
use Rattle.standby_pending_run.specs.Commits.{marked_at, marked_words, ran_words, Ran}
use Rattle.standby_pending_run.proofs.Head.{word_same, rules_front, used_kept, places_kept, clear_only, clear_rules}

-- ---- a session, if its place is in use

-- a place that isn't there
past : (n : ℕ) (f : Stored → Stored) (ps : List Place) → length ps ≤ n → on_place n f ps ≡ ps
past n f [] h = refl
past zero f (x ∷ ps) h = absurd (omega arith)
past (suc n) f (x ∷ ps) h = ap (λ (l : List Place). x ∷ l) (past n f ps (omega arith))

-- what marking leaves as it was, and the places that it leaves
pub record Marks (s : Shape) (b w w' : List ℕ) (ps : List Place) : Type 0 where
  pub places : places_of s w' b ≡ ps
  pub front : take 66 w' ≡ take 66 w
  pub same_length : length w' ≡ length w

pub marked_there : (s : Shape) (used i : ℕ) (w : List ℕ) → i < used → set w (durable_at s i) 1 ≡ marked_at s used i w
marked_there s used i w h = sym (ap (λ (t : Bool). cond t (set w (durable_at s i) 1) w) (lt-ltb i used h))

pub marked_past : (s : Shape) (used i : ℕ) (w : List ℕ) → used ≤ i → w ≡ marked_at s used i w
marked_past s used i w h = sym (ap (λ (t : Bool). cond t (set w (durable_at s i) 1) w) (le-ltb i used h))

pub marked_front : (s : Shape) (used i : ℕ) (w : List ℕ) → take 66 (marked_at s used i w) ≡ take 66 w
marked_front s used i w = go (ltb i used)
  where
    go : (t : Bool) → take 66 (cond t (set w (durable_at s i) 1) w) ≡ take 66 w
    go true = take-set-le 66 w (durable_at s i) 1 (omega arith)
    go false = refl

pub marked_length : (s : Shape) (used i : ℕ) (w : List ℕ) → length (marked_at s used i w) ≡ length w
marked_length s used i w = go (ltb i used)
  where
    go : (t : Bool) → length (cond t (set w (durable_at s i) 1) w) ≡ length w
    go true = length-set w (durable_at s i) 1
    go false = refl

module _ (s : Shape) (b : List ℕ) (used : ℕ) where
  mark_one : (i : ℕ) (w : List ℕ) → get_or w 0 0 ≡ used → Rules s w b → Marks s b w (marked_at s used i w) (on_place i mark_durable (places_of s w b))
  mark_one i w e r = record { places = go (cmp used i); front = marked_front s used i w; same_length = marked_length s used i w }
    where
      there : i < get_or w 0 0 → set w (durable_at s i) 1 ≡ marked_at s used i w → places_of s (marked_at s used i w) b ≡ on_place i mark_durable (places_of s w b)
      there h q = ap (λ (l : List ℕ). places_of s l b) (sym q) ∙ (marked s i w b r h).places

      not_there : length (places_of s w b) ≤ i → w ≡ marked_at s used i w → places_of s (marked_at s used i w) b ≡ on_place i mark_durable (places_of s w b)
      not_there h q = ap (λ (l : List ℕ). places_of s l b) (sym q) ∙ sym (past i mark_durable (places_of s w b) h)

      go : (used ≤ i) ⊎ (i < used) → places_of s (marked_at s used i w) b ≡ on_place i mark_durable (places_of s w b)
      go (inl h) = not_there (omega (arith, places_length s w b, e)) (marked_past s used i w h)
      go (inr h) = there (omega (arith, e)) (marked_there s used i w h)

  pub mark_all_lem : (cs : List (ℕ × ℕ)) (w : List ℕ) → get_or w 0 0 ≡ used → Rules s w b → Marks s b w (marked_words s used cs w) (mark_all cs (places_of s w b))
  mark_all_lem [] w e r = record { places = refl; front = refl; same_length = refl }
  mark_all_lem (c ∷ cs) w e r =
      let v : List ℕ = marked_at s used c.1 w in
      let k : Marks s b w v (on_place c.1 mark_durable (places_of s w b)) = mark_one c.1 w e r in
      let m : Marks s b v (marked_words s used cs v) (mark_all cs (places_of s v b)) = mark_all_lem cs v (word_same 0 w v k.front (omega arith) ∙ e) (rules_front s w v b b k.front k.same_length refl r) in
      record {
        places = m.places ∙ ap (mark_all cs) k.places;
        front = m.front ∙ k.front;
        same_length = m.same_length ∙ k.same_length;
      }

-- ---- all pending commits

pub ran : (s : Shape) (b w : List ℕ) → Rules s w b → Ran s b w (ran_words s w)
unfolding ran_words
ran s b w r =
    let v : List ℕ = marked_words s (get_or w 0 0) (pending_of w) w in
    let m : Marks s b w v (mark_all (pending_of w) (places_of s w b)) = mark_all_lem s b (get_or w 0 0) (pending_of w) w refl r in
    let kept : Rules s v b = rules_front s w v b b m.front m.same_length refl r in
    let long : 66 ≤ length v = omega (arith, kept.room.words_long) in
    let o : Only 1 66 v (set v 1 0) = clear_only v in
    record {
      words = refl;
      places = places_kept s v (set v 1 0) b o ∙ m.places;
      pending = cleared v long;
      rules = clear_rules s v b kept;
      used = used_kept s v (set v 1 0) b o ∙ word_same 0 w v m.front (omega arith);
      same_length = length-set v 1 0 ∙ m.same_length;
    }
