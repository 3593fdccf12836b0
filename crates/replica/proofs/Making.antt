-- Making a standby over a store. Assumes nothing.
use mathlib.Core.Path.{◌≡◌, refl, sym, ap, ◌∙◌}
use mathlib.Core.Bool.{true, false, ◌&&◌, true≢false}
use mathlib.Core.List.{List, [], ◌∷◌}
use mathlib.Core.Option.{none}
use Prim.Native.Nat.{ℕ, ◌<◌}
use native.Mathlib.Omega.{arith}
use lib.Dec.{leb}
use lib.ListN.{length, get_or, set, replicate}
use Rattle.standby_segments.specs.Segments.{Holds, Lengths}
use Rattle.standby_row.specs.declared.Bound.{Bound as BoundRecord}
use Rattle.std.specs.List.{list_any}
use Rattle.standby_row.specs.Row.{broken_of, cleared, clashes, apart_of, cleared_all}
use Rattle.standby_handles.specs.Rows.{areas_behind, row_of}
use Rattle.store_areas.specs.Areas.{allowed, Rules, places_of}
use Rattle.store_areas.proofs.Ruling.{rules_of, rules_true}
use Rattle.standby_pending.proofs.Laws.{cleared as no-commits}
use Rattle.standby_pending_run.proofs.Head.{clear_only, clear_rules, places_kept}
use Rattle.model_text.specs.Version.{latest}
use Rattle.model_standby.specs.Row.{Row}
use Rattle.standby_part.specs.State.{bound_of}
use Rattle.model_standby.specs.State.{Bound, new_standby}
use Rattle.standby_counters.specs.declared.Replica.{Replica}
use Rattle.standby_state.specs.declared.Settings.{Settings}
use Rattle.standby_state.specs.declared.Answer.{Answer}
use Rattle.standby_state.specs.Answers.{is_refused, is_done}
use Rattle.standby_state.specs.Outcomes.{counters_of}
use Rattle.standby_step.specs.Calls.{room_all, lengths_all, standby_of, allowed_all}
use Rattle.standby_step.proofs.Rows.{of_whole, whole_cleared}
use Rattle.replica.specs.Making.{new_replica, MadeOver}

pub one_inside : (s : Settings) (w b : List ℕ) → allowed s.shape w b ≡ true → 1 < length w
one_inside s w b on = let r : Rules s.shape w b = rules_of s.shape w b on in omega (arith, r.room.words_long)

-- ---- the row, freed

all_free : (bound : BoundRecord → Holds → Bound) (room : Lengths) (row : List BoundRecord) (h : Holds) → row_of bound room (cleared_all row) h ≡ replicate (length row) none
all_free bound room [] h = refl
all_free bound room (g ∷ gs) h = ap (λ (t : Row Bound). none ∷ t) (all_free bound room gs (areas_behind room h))

-- free records are apart
freed_apart : (row : List BoundRecord) → apart_of (cleared_all row) ≡ true
freed_apart [] = refl
freed_apart (g ∷ gs) = rw (freed_alone g (cleared_all gs)) (freed_apart gs)
  where
    freed_alone : (g : BoundRecord) (hs : List BoundRecord) → list_any (clashes (cleared g)) hs ≡ false
    freed_alone g [] = refl
    freed_alone g (h ∷ hs) = freed_alone g hs

module _ (s : Settings) (c : Replica) (row : List BoundRecord) (w b : List ℕ) where
  pub not_made : {a : Answer} → allowed s.shape w b ≡ false → a ≡ is_refused 25 → MadeOver s c c row row w w b a
  not_made off is = record { refuses = λ _. (is, (refl, (refl, refl))); makes = λ on. absurd (true≢false (sym on ∙ off)) }

  new : Rules s.shape w b → (h : Holds) → standby_of s new_replica (cleared_all row) (set w 1 0) b h ≡ new_standby (places_of s.shape w b) (length row)
  new rules h =
      (λ i. record {
        counters = counters_of new_replica;
        places = places_kept s.shape w (set w 1 0) b (clear_only w) i;
        handles = all_free (bound_of latest) (lengths_all (cleared_all row) h) row h i;
        pending = no-commits w (omega (arith, rules.room.words_long)) i;
      })

  sound : Rules s.shape w b → (h : List ℕ) → allowed_all s (cleared_all row) (set w 1 0) b h ≡ true
  sound rules h =
      (λ i. rules_true s.shape (set w 1 0) b (clear_rules s.shape w b rules) i && (freed_apart row i && leb (length (cleared_all row)) (broken_of (cleared_all row) (get_or (set w 1 0) 0 0) (room_all (cleared_all row) h))))
      ∙ of_whole (get_or (set w 1 0) 0 0) (room_all (cleared_all row) h) (cleared_all row) (whole_cleared (get_or (set w 1 0) 0 0) (room_all (cleared_all row) h) row)

  pub made : {a : Answer} {d : Replica} {row' : List BoundRecord} → allowed s.shape w b ≡ true → a ≡ is_done → d ≡ new_replica → row' ≡ cleared_all row → MadeOver s c d row row' w (set w 1 0) b a
  made {a} {d} {row'} on is as_new free =
      let rules : Rules s.shape w b = rules_of s.shape w b on in
      record {
        refuses = λ off. absurd (true≢false (sym on ∙ off));
        makes = λ _. record {
          done = is;
          is = λ h. (λ i. standby_of s (as_new i) (free i) (set w 1 0) b h) ∙ new rules h;
          allowed = λ h. (λ i. allowed_all s (free i) (set w 1 0) b h) ∙ sound rules h;
          words = refl;
          freed = free;
        };
      }
