-- Each way of a Batch on a handle is the definition's. Assumes nothing.
use mathlib.Core.Path.{◌≡◌, refl, sym, ap, subst, ◌∙◌}
use mathlib.Core.Bool.{Bool, true, false, cond}
use mathlib.Core.List.{List, []}
use mathlib.Core.Option.{some}
use Rattle.std.specs.Prelude.{Some, None}
use Prim.Native.Nat.{ℕ}
use native.Mathlib.Omega.{arith}
use lib.ListN.{length}
use Rattle.base_refusals.specs.declared.Refusal.{Refusal}
use Rattle.model_frame.specs.Frame.{Change, commit, whole, last_whole, nack, diverged}
use Rattle.model_frame.specs.Frame as the_frame
use Rattle.model_frame.specs.Sizes.{sizes}
use Rattle.standby_segments.specs.Segments.{Holds, held_in}
use Rattle.standby_segments.proofs.Meaning.{none_held as nothing_held}
use Rattle.standby_row.specs.declared.Bound.{Bound}
use Rattle.store_areas.specs.declared.Shape.{Shape}
use Rattle.store_areas.specs.Areas.{Rules}
use Rattle.standby_commit.specs.Settling.{batch_change, StoreAfter}
use Rattle.standby_commit.proofs.Laws.{none_changed}
use Rattle.model_standby.specs.Answer.{reply}
use Rattle.model_standby.specs.State.{Counters, none_held}
use Rattle.model_standby.specs.Core.{store, core_says, core_part, core_handle}
use Rattle.standby_part.specs.declared.PartResult.{PartResult}
use Rattle.standby_part.specs.State.{bound_of, core_at, settings_for, holding_to}
use Rattle.standby_part.specs.Part.{is_accepted, result_of, PartIs}
use Rattle.standby_batch_handle.specs.Handling.{follows_of, HandleIs}

module _ (version : ℕ) (s : Shape) (handle n : ℕ) (part : the_frame.Part) (cs : List Change) (w b : List ℕ) (area : Holds) where
  pub unbound : Rules s w b → HandleIs version s handle None n part cs w w b b area area (PartResult.Refused Refusal.Unbound)
  unfolding core_handle
  unbound r = record { is = λ c incarnation lag. refl; rules = r; store_after = (refl, refl); slot = refl }

  module _ (h : Bound) where
    -- bound, and past the commit number
    bound_part : (c : Counters) (incarnation lag : ℕ)
        → core_handle (settings_for s (length area.bytes) incarnation lag) (core_at c s w b) handle (some (bound_of version h area)) n part cs
        ≡ cond (follows_of h n) (core_part (settings_for s (length area.bytes) incarnation lag) (core_at c s w b) handle (bound_of version h area) n part cs) (core_says (core_at c s w b) (store handle (none_held (bound_of version h area))) (nack handle diverged))
    unfolding core_handle
    bound_part c incarnation lag = refl

    nothing : held_in version area 0 ≡ []
    nothing = nothing_held version area.ends

    pub off_number : {next : Bool} → Rules s w b → next ≡ follows_of h n → next ≡ false → HandleIs version s handle (Some h) n part cs w w b b area area (PartResult.Diverged (holding_to h h.commit_no 0 0))
    off_number r f off = record {
      is = λ c incarnation lag.
          (λ j. record { core = core_at c s w b; action = store handle (record { place = h.place; number = h.commit_no.0; held = nothing j; bytes = 0 }); answer = reply (nack handle diverged) })
          ∙ sym (bound_part c incarnation lag
          ∙ ap (λ (t : Bool). cond t (core_part (settings_for s (length area.bytes) incarnation lag) (core_at c s w b) handle (bound_of version h area) n part cs) (core_says (core_at c s w b) (store handle (none_held (bound_of version h area))) (nack handle diverged))) (sym f ∙ off));
      rules = r;
      store_after = none_changed s handle h.place part w b refl;
      slot = record { place = refl; len = λ _. omega arith; held = sym (ap sizes nothing) };
    }

    pub by_part : {next : Bool} {w' b' : List ℕ} {area' : Holds} {d : PartResult} → next ≡ follows_of h n → next ≡ true → h.handle ≡ handle
        → PartIs version s h n part cs w w' b b' area area' d → HandleIs version s handle (Some h) n part cs w w' b b' area area' d
    by_part {w' = w'} {b' = b'} {area' = area'} {d = d} f on own p = record {
      is = λ c incarnation lag.
          subst (λ (k : ℕ). result_of version k n area' d (core_at c s w' b') ≡ core_part (settings_for s (length area.bytes) incarnation lag) (core_at c s w b) k (bound_of version h area) n part cs) own (p.is c incarnation lag)
          ∙ sym (bound_part c incarnation lag
          ∙ ap (λ (t : Bool). cond t (core_part (settings_for s (length area.bytes) incarnation lag) (core_at c s w b) handle (bound_of version h area) n part cs) (core_says (core_at c s w b) (store handle (none_held (bound_of version h area))) (nack handle diverged))) (sym f ∙ on));
      rules = p.rules;
      store_after = subst (λ (k : ℕ). StoreAfter s (batch_change k h.place part (is_accepted d)) w w' b b') own p.store_after;
      slot = p.slot;
    }
