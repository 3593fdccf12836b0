-- What every call does to the row: a bound handle gets another value with its session, a Bind frees the session's other handle and binds, all places become
-- free. What these three keep, every call keeps: the rule of the row, and its length.
-- Assumes nothing.
use mathlib.Core.Path.{◌≡◌, refl, ◌∙◌}
use Prim.Native.Nat.{ℕ}
use mathlib.Core.List.{List, [], ◌∷◌}
use mathlib.Core.Option.{some}
use mathlib.Core.Bool.{true, not, ◌||◌}
use lib.ListN.{length}
use lib.Dec.{eqb}
use Rattle.model_frame.specs.Frame.{Change, Part, Frame}
use Rattle.model_session.proofs.Basics.{cond_cases}
use Rattle.model_standby.specs.Answer.{Given, damaged, intact, given}
use Rattle.model_standby.specs.Row.{Row, freed, find, put}
use Rattle.model_standby.specs.Store.{place_of}
use Rattle.model_standby.specs.State.{Settings, Bound, Standby, Result, Call, on_frame_held, on_frame, flush, disconnected_from, promote, promote_unchecked, new_bound, none_held, numbered}
use Rattle.model_standby.specs.Handles.{apart, without_others}
use Rattle.model_standby.specs.Standby.{run_pending, due, summed, holding, on_given, step, run}
use Rattle.model_standby.proofs.Rows.{length_put, length_freed}
use Rattle.model_standby.proofs.Handles.{set_apart, bind_apart, freed_apart, others_length}
use Rattle.model_standby.proofs.Outcomes.{gathers_place, Batches, refuses, clears, raises, holds, applies, diverges, Does, turns, tells, nacks, greets, binds, checks, batches, does}

record Closed (P : Row Bound → Type 0) : Type 0 where
  sets : (h : ℕ) (b b₁ : Bound) (t : Row Bound) → find h t ≡ some b → b₁.place ≡ b.place → P t → P (put h b₁ t)
  rebinds : (h p : ℕ) (t : Row Bound) → P t → P (put h (new_bound p) (without_others h p t))
  frees : (t : Row Bound) → P t → P (freed t)

module _ (L : Settings) (P : Row Bound → Type 0) (closed : Closed P) where
  abbrev Keeps : Result → Type 0
  Keeps r = P r.state.handles

  batch_keeps : {s : Standby} {h n : ℕ} {p : Part} {cs : List Change} {r : Result} → Batches L s h n p cs r → P s.handles → Keeps r
  batch_keeps (refuses t) a = a
  batch_keeps {s} {h} (clears {b} f) a = closed.sets h b (none_held b) s.handles f refl a
  batch_keeps {s} {h} {cs} (raises {b} f t) a = closed.sets h b (summed b cs) s.handles f refl a
  batch_keeps {s} {h} {n} {cs} (holds {b} f e q) a = closed.sets h b (holding b n cs) s.handles f refl a
  batch_keeps {s} {h} {n} (applies {b} {b₁} f g t) a = closed.sets h b (numbered n b₁) s.handles f (gathers_place L g) a
  batch_keeps {s} {h} (diverges {b} {b₁} f g) a = closed.sets h b b₁ s.handles f (gathers_place L g) a

  does_keeps : {s : Standby} {f : Frame} {r : Result} → Does L s f r → P s.handles → Keeps r
  does_keeps (turns t) a = a
  does_keeps tells a = a
  does_keeps (nacks q) a = a
  does_keeps {s} (greets le) a = closed.frees s.handles a
  does_keeps {s} (binds {h} {k} le st p q) a = closed.rebinds h (place_of k s.places) s.handles a
  does_keeps (checks le) a = a
  does_keeps (batches le d) a = batch_keeps d a

  given_keeps : (s : Standby) (g : Given) → P s.handles → Keeps (on_given L s g)
  unfolding on_given
  given_keeps s (damaged n) a = a
  given_keeps s (intact f) a = cond_cases Keeps s.counters.promoted (λ _. a) (λ _. does_keeps (does L (run_pending (due s.pending f) s) f) a)

  step_keeps : (s : Standby) (c : Call) → P s.handles → Keeps (step L s c)
  unfolding step
  step_keeps s (on_frame_held w) a = given_keeps s (given s.counters.version w) a
  step_keeps s (on_frame w) a = given_keeps s (given s.counters.version w) a
  step_keeps s (flush n) a = cond_cases Keeps (not (eqb n s.counters.connections) || s.counters.promoted) (λ _. a) (λ _. a)
  step_keeps s (disconnected_from n) a = cond_cases (λ (x : Standby). P x.handles) (eqb n s.counters.connections) (λ _. closed.frees s.handles a) (λ _. a)
  step_keeps s promote a = cond_cases Keeps s.counters.checked (λ _. closed.frees s.handles a) (λ _. a)
  step_keeps s promote_unchecked a = closed.frees s.handles a

  run_keeps : (s : Standby) (cs : List Call) → P s.handles → P (run L s cs).handles
  run_keeps s [] a = a
  run_keeps s (c ∷ cs) a = run_keeps (step L s c).state cs (step_keeps s c a)

-- ---- the rule

abbrev IsApart : Row Bound → Type 0
IsApart t = apart t ≡ true

closed_apart : Closed IsApart
closed_apart =
    record { sets = λ h b b₁ t f e a. set_apart h b b₁ t a f e; rebinds = λ h p t a. bind_apart h p (new_bound p) t a refl; frees = λ t a. freed_apart t }

pub apart_step : (L : Settings) (s : Standby) (c : Call) → apart s.handles ≡ true → apart (step L s c).state.handles ≡ true
apart_step L s c a = step_keeps L IsApart closed_apart s c a

pub apart_run : (L : Settings) (s : Standby) (cs : List Call) → apart s.handles ≡ true → apart (run L s cs).handles ≡ true
apart_run L s cs a = run_keeps L IsApart closed_apart s cs a

-- ---- the length

closed_length : (n : ℕ) → Closed (λ (t : Row Bound). length t ≡ n)
closed_length n =
    record {
      sets = λ h b b₁ t f e a. length_put h b₁ t ∙ a;
      rebinds = λ h p t a. length_put h (new_bound p) (without_others h p t) ∙ others_length h p t ∙ a;
      frees = λ t a. length_freed t ∙ a;
    }

pub length_run : (L : Settings) (s : Standby) (cs : List Call) → length (run L s cs).handles ≡ length s.handles
length_run L s cs = run_keeps L (λ (t : Row Bound). length t ≡ length s.handles) (closed_length (length s.handles)) s cs refl
