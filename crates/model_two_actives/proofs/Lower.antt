-- What a frame of a lower epoch, and any bytes after promotion, are answered and write to the hold areas.
-- Assumes nothing.
use mathlib.Core.Path.{◌≡◌, refl, sym, ap, subst, ◌∙◌}
use Prim.Native.Nat.{ℕ}
use native.Mathlib.Omega.{arith}
use mathlib.Core.List.{List}
use mathlib.Core.Option.{Option, none}
use mathlib.Core.Bool.{Bool, true, false, not, ◌||◌}
use lib.Dec.{T, ltb, eqb, ltb→lt}
use Rattle.model_frame.specs.Frame.{Reason, Frame, hello, welcome, bind, batch, ack, nack, bound, checked}
use Rattle.model_frame.specs.Refusal
use Rattle.model_frame.specs.Parse.{is_empty}
use Rattle.model_session.proofs.Basics.{T→true, true≢false, eqb_sound, cond-true, cond-false}
use Rattle.model_standby.specs.Answer.{Given, damaged, intact, given, lower, Answer, reply, refused, done, reason_in, is_diverged, accepted, says_diverged, is_reply}
use Rattle.model_standby.specs.State.{Settings, Counters, Bound, Standby, Call, Result}
use Rattle.model_standby.specs.Standby.{due, run_pending, on_given, step}
use Rattle.model_standby.specs.Hold.{writes_part, writes_frame, writes}
use Rattle.model_standby.specs.Demand.{is_outside, Hands, by_held, by_frame}
use Rattle.model_standby.proofs.Outcomes.{Nacked, stale_bind, lag_bind, stale_batch, stale_checked, other_checked, Does, turns, tells, nacks, greets, binds, checks, batches, does}

abbrev pub is_hello : Frame → Bool
is_hello (hello v e node kinds) = true
is_hello (welcome e i) = false
is_hello (bind h e lag k) = false
is_hello (batch h e n p cs apps) = false
is_hello (ack h n) = false
is_hello (nack h r) = false
is_hello (bound h m) = false
is_hello (checked h e i) = false

or_true : (b : Bool) → (b || true) ≡ true
or_true true = refl
or_true false = refl

-- ---- the answer: only a Hello is accepted

lower_does : {L : Settings} {s : Standby} {f : Frame} {r : Result} → Does L s f r → T (lower s.counters.epoch f) → (is_hello f || not (accepted r.answer)) ≡ true
lower_does {f} (turns t) u = or_true (is_hello f)
lower_does tells u = refl
lower_does {f} (nacks q) u = or_true (is_hello f)
lower_does {s} (greets {e} h) u = absurd (omega (arith, ltb→lt e s.counters.epoch u))
lower_does {s} (binds {e} h st p q) u = absurd (omega (arith, ltb→lt e s.counters.epoch u))
lower_does {s} (checks {e} h) u = absurd (omega (arith, ltb→lt e s.counters.epoch u))
lower_does {s} (batches {e} h d) u = absurd (omega (arith, ltb→lt e s.counters.epoch u))

-- nor is Diverged or 17 told
pub record Spares (a : Answer) : Type 0 where
  pub no_diverged : says_diverged a ≡ false
  pub no_17 : (n : ℕ) → a ≡ refused n → eqb n Refusal.too_many_bytes ≡ false

refused_number : (m n : ℕ) → ◌≡◌ {A = Answer} (refused m) (refused n) → m ≡ n
refused_number m n e = ap number e
  where
    number : Answer → ℕ
    number (reply f) = 0
    number (refused k) = k
    number done = 0

outside_17 : (n : ℕ) → T (is_outside n) → eqb n Refusal.too_many_bytes ≡ false
outside_17 n t = go (eqb n Refusal.too_many_bytes) refl
  where
    go : (b : Bool) → eqb n Refusal.too_many_bytes ≡ b → b ≡ false
    go true e = absurd (subst (λ (k : ℕ). T (is_outside k)) (eqb_sound n Refusal.too_many_bytes e) t)
    go false e = refl

reply_refused : (f : Frame) (n : ℕ) → ◌≡◌ {A = Answer} (reply f) (refused n) → ⊥
reply_refused f n e = true≢false (ap is_reply e)

says_spares : (f : Frame) → is_diverged (reason_in f) ≡ false → Spares (reply f)
says_spares f p = record { no_diverged = p; no_17 = λ n e. absurd (reply_refused f n e) }

nack_spares : {f : Frame} {h : ℕ} {r : Reason} → Nacked f h r → Spares (reply (nack h r))
nack_spares stale_bind = says_spares _ refl
nack_spares lag_bind = says_spares _ refl
nack_spares stale_batch = says_spares _ refl
nack_spares stale_checked = says_spares _ refl
nack_spares other_checked = says_spares _ refl

does_spares : {L : Settings} {s : Standby} {f : Frame} {r : Result} → Does L s f r → T (lower s.counters.epoch f) → Spares r.answer
does_spares (turns {n} t) u = record { no_diverged = refl; no_17 = λ m e. ap (λ (k : ℕ). eqb k Refusal.too_many_bytes) (sym (refused_number n m e)) ∙ outside_17 n t }
does_spares tells u = says_spares _ refl
does_spares (nacks q) u = nack_spares q
does_spares {s} (greets {e} h) u = absurd (omega (arith, ltb→lt e s.counters.epoch u))
does_spares {s} (binds {e} h st p q) u = absurd (omega (arith, ltb→lt e s.counters.epoch u))
does_spares {s} (checks {e} h) u = absurd (omega (arith, ltb→lt e s.counters.epoch u))
does_spares {s} (batches {e} h d) u = absurd (omega (arith, ltb→lt e s.counters.epoch u))

module _ (L : Settings) (s : Standby) where
  given_spares : (f : Frame) → s.counters.promoted ≡ false → T (lower s.counters.epoch f) → Spares (on_given L s (intact f)).answer
  unfolding on_given
  given_spares f p t = subst (λ (r : Result). Spares r.answer) (sym (cond-false _ _ p)) (does_spares (does L (run_pending (due s.pending f) s) f) t)

  pub lower_spares : (c : Call) (w : List ℕ) (f : Frame) → s.counters.promoted ≡ false → Hands c w → given s.counters.version w ≡ intact f → T (lower s.counters.epoch f) → Spares (step L s c).answer
  unfolding step
  lower_spares c w f p by_held r t = subst (λ (g : Given). Spares (on_given L s g).answer) (sym r) (given_spares f p t)
  lower_spares c w f p by_frame r t = subst (λ (g : Given). Spares (on_given L s g).answer) (sym r) (given_spares f p t)

  given_answer : (f : Frame) → s.counters.promoted ≡ false → T (lower s.counters.epoch f) → (is_hello f || not (accepted (on_given L s (intact f)).answer)) ≡ true
  unfolding on_given
  given_answer f p t = ap (λ (r : Result). is_hello f || not (accepted r.answer)) (cond-false _ _ p) ∙ lower_does (does L (run_pending (due s.pending f) s) f) t

  pub lower_answer : (c : Call) (w : List ℕ) (f : Frame) → s.counters.promoted ≡ false → Hands c w → given s.counters.version w ≡ intact f → T (lower s.counters.epoch f)
      → (is_hello f || not (accepted (step L s c).answer)) ≡ true
  unfolding step
  lower_answer c w f p by_held r t = ap (λ (g : Given). is_hello f || not (accepted (on_given L s g).answer)) r ∙ given_answer f p t
  lower_answer c w f p by_frame r t = ap (λ (g : Given). is_hello f || not (accepted (on_given L s g).answer)) r ∙ given_answer f p t

  -- neither accepted nor a frame
  abbrev Refused : Answer → Type 0
  Refused a = (accepted a ≡ false) × (is_reply a ≡ false)

  given_refused : (g : Given) → s.counters.promoted ≡ true → Refused (on_given L s g).answer
  unfolding on_given
  given_refused (damaged n) p = (refl, refl)
  given_refused (intact f) p = (ap (λ (r : Result). accepted r.answer) (cond-true _ _ p), ap (λ (r : Result). is_reply r.answer) (cond-true _ _ p))

  pub promoted_answer : (c : Call) (w : List ℕ) → s.counters.promoted ≡ true → Hands c w → Refused (step L s c).answer
  unfolding step
  promoted_answer c w p by_held = given_refused (given s.counters.version w) p
  promoted_answer c w p by_frame = given_refused (given s.counters.version w) p

-- ---- the hold areas

module _ (L : Settings) (k : Counters) (found : Option Bound) where
  frame_writes : (f : Frame) → T (lower k.epoch f) → writes_frame L k found f ≡ none
  frame_writes (hello v e node kinds) t = refl
  frame_writes (welcome e i) t = refl
  frame_writes (bind h e lag j) t = refl
  frame_writes (batch h e n p cs apps) t =
      cond-true none (writes_part L h found n p cs) (ap (λ (b : Bool). not (is_empty apps) || b) (T→true (ltb e k.epoch) t) ∙ or_true (not (is_empty apps)))
  frame_writes (ack h n) t = refl
  frame_writes (nack h r) t = refl
  frame_writes (bound h m) t = refl
  frame_writes (checked h e i) t = refl

  pub lower_writes : (w : List ℕ) (f : Frame) → k.promoted ≡ false → given k.version w ≡ intact f → T (lower k.epoch f) → writes L k found (given k.version w) ≡ none
  unfolding writes
  lower_writes w f p r t = ap (writes L k found) r ∙ cond-false none (writes_frame L k found f) p ∙ frame_writes f t

  given_writes : (g : Given) → k.promoted ≡ true → writes L k found g ≡ none
  unfolding writes
  given_writes (damaged n) p = refl
  given_writes (intact f) p = cond-true none (writes_frame L k found f) p

  pub promoted_writes : (w : List ℕ) → k.promoted ≡ true → writes L k found (given k.version w) ≡ none
  promoted_writes w p = given_writes (given k.version w) p
