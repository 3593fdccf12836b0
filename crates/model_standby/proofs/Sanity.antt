-- What any reader expects of a standby: the epoch never falls; damaged frames, those of lower epochs, and promoted standbys leave
-- all as it was.
-- Assumes nothing.
use mathlib.Core.Path.{◌≡◌, refl, sym, ap, subst, ◌∙◌}
use Prim.Native.Nat.{ℕ, ◌≤◌}
use native.Mathlib.Nat.{le_trans, le_refl}
use native.Mathlib.Omega.{arith}
use mathlib.Core.List.{List, [], ◌∷◌}
use mathlib.Core.Option.{none}
use mathlib.Core.Bool.{Bool, true, false, not, ◌||◌}
use lib.Dec.{T, eqb, ltb→lt}
use Rattle.model_frame.specs.Frame.{Change, Part, Frame}
use Rattle.model_session.proofs.Basics.{cond_cases, cond-true, cond-false, true≢false}
use Rattle.model_standby.specs.Answer.{Given, damaged, intact, given, lower, is_reply}
use Rattle.model_standby.specs.Row.{find}
use Rattle.model_standby.specs.State.{Settings, Counters, Standby, Result, Call, on_frame_held, on_frame, flush, disconnected_from, promote, promote_unchecked}
use Rattle.model_standby.specs.Standby.{run_pending, due, refuse, flushed, on_given, step, run}
use Rattle.model_standby.proofs.Outcomes.{Batches, refuses, clears, raises, holds, applies, diverges, Does, turns, tells, nacks, greets, binds, checks, batches, does}
use Rattle.model_standby.proofs.Rows.{find_freed}

-- ---- the epoch never falls

-- a Batch past its epoch changes no counter
batch_counters : {L : Settings} {s : Standby} {h n : ℕ} {p : Part} {cs : List Change} {r : Result} → Batches L s h n p cs r → r.state.counters ≡ s.counters
batch_counters (refuses t) = refl
batch_counters (clears f) = refl
batch_counters (raises f t) = refl
batch_counters (holds f q t) = refl
batch_counters (applies f g t) = refl
batch_counters (diverges f g) = refl

-- the epoch is not below that of s, and promoted is as in s
abbrev Since : Standby → Standby → Type 0
Since s s₁ = (s.counters.epoch ≤ s₁.counters.epoch) × (s₁.counters.promoted ≡ s.counters.promoted)

since : {L : Settings} {s : Standby} {f : Frame} {r : Result} → Does L s f r → Since s r.state
since {s} (turns t) = (le_refl s.counters.epoch, refl)
since {s} tells = (le_refl s.counters.epoch, refl)
since {s} (nacks q) = (le_refl s.counters.epoch, refl)
since (greets le) = (le, refl)
since {s} (binds le st p q) = (le_refl s.counters.epoch, refl)
since (checks le) = (le, refl)
since {s} (batches le d) = (subst (λ (c : Counters). s.counters.epoch ≤ c.epoch) (sym (batch_counters d)) le, ap (λ (c : Counters). c.promoted) (batch_counters d))

-- what changes the state is at the standby's epoch at least
lower_leaves : {L : Settings} {s : Standby} {f : Frame} {r : Result} → Does L s f r → T (lower s.counters.epoch f) → r.state ≡ s
lower_leaves (turns t) u = refl
lower_leaves tells u = refl
lower_leaves (nacks q) u = refl
lower_leaves {s} (greets {e} h) u = absurd (omega (arith, ltb→lt e s.counters.epoch u))
lower_leaves {s} (binds {e} h st p q) u = absurd (omega (arith, ltb→lt e s.counters.epoch u))
lower_leaves {s} (checks {e} h) u = absurd (omega (arith, ltb→lt e s.counters.epoch u))
lower_leaves {s} (batches {e} h d) u = absurd (omega (arith, ltb→lt e s.counters.epoch u))

module _ (L : Settings) where
  given_since : (s : Standby) (g : Given) → Since s (on_given L s g).state
  unfolding on_given
  given_since s (damaged n) = (le_refl s.counters.epoch, refl)
  given_since s (intact f) =
      cond_cases (λ (r : Result). Since s r.state) s.counters.promoted (λ _. (le_refl s.counters.epoch, refl)) (λ _. since (does L (run_pending (due s.pending f) s) f))

  step_epoch : (s : Standby) (c : Call) → s.counters.epoch ≤ (step L s c).state.counters.epoch
  unfolding step
  step_epoch s (on_frame_held w) = (given_since s (given s.counters.version w)).0
  step_epoch s (on_frame w) = (given_since s (given s.counters.version w)).0
  step_epoch s (flush n) =
      cond_cases (λ (r : Result). s.counters.epoch ≤ r.state.counters.epoch) (not (eqb n s.counters.connections) || s.counters.promoted) (λ _. le_refl s.counters.epoch) (λ _. le_refl s.counters.epoch)
  step_epoch s (disconnected_from n) = cond_cases (λ (x : Standby). s.counters.epoch ≤ x.counters.epoch) (eqb n s.counters.connections) (λ _. le_refl s.counters.epoch) (λ _. le_refl s.counters.epoch)
  step_epoch s promote = cond_cases (λ (r : Result). s.counters.epoch ≤ r.state.counters.epoch) s.counters.checked (λ _. le_refl s.counters.epoch) (λ _. le_refl s.counters.epoch)
  step_epoch s promote_unchecked = le_refl s.counters.epoch

  -- from any state, under any calls
  pub epoch_never_falls : (s : Standby) (cs : List Call) → s.counters.epoch ≤ (run L s cs).counters.epoch
  epoch_never_falls s [] = le_refl s.counters.epoch
  epoch_never_falls s (c ∷ cs) = le_trans (step_epoch s c) (epoch_never_falls (step L s c).state cs)

  -- ---- what changes nothing

  -- bytes that are not just one whole frame, whatever the state
  pub damaged_held : (s : Standby) (w : List ℕ) (n : ℕ) → given s.counters.version w ≡ damaged n → step L s (on_frame_held w) ≡ refuse s n
  unfolding step on_given
  damaged_held s w n p = ap (on_given L s) p

  pub damaged_frame : (s : Standby) (w : List ℕ) (n : ℕ) → given s.counters.version w ≡ damaged n → step L s (on_frame w) ≡ refuse s n
  unfolding step on_given
  damaged_frame s w n p = ap (λ (g : Given). flushed (on_given L s g)) p

  -- a frame of a lower epoch: at most, due commits run
  pub lower_frame : (s : Standby) (f : Frame) → s.counters.promoted ≡ false → T (lower s.counters.epoch f) → (on_given L s (intact f)).state ≡ run_pending (due s.pending f) s
  unfolding on_given
  lower_frame s f p t = ap (λ (r : Result). r.state) (cond-false _ _ p) ∙ lower_leaves (does L (run_pending (due s.pending f) s) f) t

  -- any frame after promotion
  promoted_given : (s : Standby) (g : Given) → s.counters.promoted ≡ true → (n : ℕ) × (on_given L s g ≡ refuse s n)
  unfolding on_given
  promoted_given s (damaged n) p = (n, refl)
  promoted_given s (intact f) p = (10, cond-true _ _ p)

  pub promoted_held : (s : Standby) (w : List ℕ) → s.counters.promoted ≡ true → (step L s (on_frame_held w)).state ≡ s
  unfolding step
  promoted_held s w p = ap (λ (r : Result). r.state) (promoted_given s (given s.counters.version w) p).1

  pub promoted_frame : (s : Standby) (w : List ℕ) → s.counters.promoted ≡ true → (step L s (on_frame w)).state ≡ s
  unfolding step
  promoted_frame s w p = ap (λ (r : Result). (flushed r).state) (promoted_given s (given s.counters.version w) p).1

  -- and a promoted standby stays promoted
  promotes : (s : Standby) (c : Call) → s.counters.promoted ≡ true → (step L s c).state.counters.promoted ≡ true
  unfolding step
  promotes s (on_frame_held w) p = ap (λ (x : Standby). x.counters.promoted) (promoted_held s w p) ∙ p
  promotes s (on_frame w) p = ap (λ (x : Standby). x.counters.promoted) (promoted_frame s w p) ∙ p
  promotes s (flush n) p =
      cond_cases (λ (r : Result). r.state.counters.promoted ≡ true) (not (eqb n s.counters.connections) || s.counters.promoted) (λ _. p) (λ _. p)
  promotes s (disconnected_from n) p = cond_cases (λ (x : Standby). x.counters.promoted ≡ true) (eqb n s.counters.connections) (λ _. p) (λ _. p)
  promotes s promote p = cond_cases (λ (r : Result). r.state.counters.promoted ≡ true) s.counters.checked (λ _. refl) (λ _. p)
  promotes s promote_unchecked p = refl

  pub promoted_for_good : (s : Standby) (cs : List Call) → s.counters.promoted ≡ true → (run L s cs).counters.promoted ≡ true
  promoted_for_good s [] p = p
  promoted_for_good s (c ∷ cs) p = promoted_for_good (step L s c).state cs (promotes s c p)

  -- a promoted standby has nothing bound and nothing pending, if that was so at first
  abbrev pub Idle : Standby → Type 0
  Idle s = s.counters.promoted ≡ true → (s.pending ≡ []) × ((h : ℕ) → find h s.handles ≡ none)

  given_idle : (s : Standby) (g : Given) (q : Bool) → s.counters.promoted ≡ q → Idle s → ((on_given L s g).state.counters.promoted ≡ true) → ((on_given L s g).state ≡ s)
  given_idle s g true p i u = ap (λ (r : Result). r.state) (promoted_given s g p).1
  given_idle s g false p i u = absurd (true≢false (sym u ∙ (given_since s g).1 ∙ p))

  idle_step : (s : Standby) (c : Call) → Idle s → Idle (step L s c).state
  unfolding step
  idle_step s (on_frame_held w) i = λ u. subst Idle (sym (given_idle s (given s.counters.version w) s.counters.promoted refl i u)) i u
  idle_step s (on_frame w) i =
      λ u. let p = subst Idle (sym (given_idle s (given s.counters.version w) s.counters.promoted refl i u)) i u in
      (cond_cases (λ (l : List (ℕ × ℕ)). l ≡ []) (is_reply (on_given L s (given s.counters.version w)).answer) (λ _. refl) (λ _. p.0), p.1)
  idle_step s (flush n) i = cond_cases (λ (r : Result). Idle r.state) (not (eqb n s.counters.connections) || s.counters.promoted) (λ _. i) (λ _ u. (refl, (i u).1))
  idle_step s (disconnected_from n) i = cond_cases Idle (eqb n s.counters.connections) (λ _ u. (refl, λ h. find_freed h s.handles)) (λ _. i)
  idle_step s promote i = cond_cases (λ (r : Result). Idle r.state) s.counters.checked (λ _ u. (refl, λ h. find_freed h s.handles)) (λ _. i)
  idle_step s promote_unchecked i = λ u. (refl, λ h. find_freed h s.handles)

  pub promoted_idle : (s : Standby) (cs : List Call) → Idle s → Idle (run L s cs)
  promoted_idle s [] i = i
  promoted_idle s (c ∷ cs) i = promoted_idle (step L s c).state cs (idle_step s c i)
