-- What a frame of a lower epoch, and any bytes after promotion, do to the row: nothing. Assumes nothing.
use mathlib.Core.Path.{◌≡◌, refl, sym, ap, subst, ◌∙◌}
use Prim.Native.Nat.{ℕ}
use mathlib.Core.List.{List}
use mathlib.Core.Bool.{Bool, true, false, cond, not, ◌&&◌, ◌||◌, true≢false}
use lib.Dec.{T, ltb}
use Rattle.model_frame.specs.Frame.{Frame, hello, welcome, bind, batch, ack, nack, bound, checked}
use Rattle.model_session.proofs.Basics.{T→true, cond-true}
use Rattle.model_standby.specs.Answer.{Given, damaged, intact, given, lower, Answer, reply, refused, done, accepted}
use Rattle.model_standby.specs.State.{Settings, Counters, Standby, Call, Result}
use Rattle.model_standby.specs.Standby.{on_given, step}
use Rattle.model_standby.specs.Demand.{Hands, by_held, by_frame}
use Rattle.model_two_actives.proofs.Lower.{is_hello, Spares, lower_answer, lower_spares}
use Rattle.standby_step.specs.Calls.{keeps, puts, rebinds, frees, says_too_many, row_by_frame, row_by_given, row_by}

not_so : (b : Bool) → not b ≡ true → b ≡ false
not_so true e = absurd (true≢false (sym e))
not_so false e = refl

and_false : (b : Bool) → (b && false) ≡ false
and_false true = refl
and_false false = refl

few_bytes : (a : Answer) → Spares a → says_too_many a ≡ false
few_bytes (reply f) p = refl
few_bytes (refused n) p = p.no_17 n refl
few_bytes done p = refl

row_lower : (k : Counters) (f : Frame) (a : Answer) → T (lower k.epoch f) → (is_hello f || not (accepted a)) ≡ true → Spares a → row_by_frame k f a ≡ keeps
row_lower k (hello v e node kinds) a t q p = ap (λ (b : Bool). cond b frees keeps) (ap (λ (b : Bool). accepted a && not b) (T→true (ltb e k.epoch) t) ∙ and_false (accepted a))
row_lower k (welcome e i) a t q p = refl
row_lower k (bind h e lag j) a t q p = ap (λ (b : Bool). cond b (rebinds h) keeps) (not_so (accepted a) q)
row_lower k (batch h e n part cs apps) a t q p = (λ i. cond (not_so (accepted a) q i || (p.no_diverged i || few_bytes a p i)) (puts h) keeps)
row_lower k (ack h n) a t q p = refl
row_lower k (nack h r) a t q p = refl
row_lower k (bound h m) a t q p = refl
row_lower k (checked h e i) a t q p = refl

row_refused : (k : Counters) (f : Frame) → row_by_frame k f (refused 10) ≡ keeps
row_refused k (hello v e node kinds) = refl
row_refused k (welcome e i) = refl
row_refused k (bind h e lag j) = refl
row_refused k (batch h e n part cs apps) = refl
row_refused k (ack h n) = refl
row_refused k (nack h r) = refl
row_refused k (bound h m) = refl
row_refused k (checked h e i) = refl

module _ (L : Settings) (s : Standby) (k : Counters) where
  pub lower_row : (c : Call) (w : List ℕ) (f : Frame) → s.counters ≡ k → s.counters.promoted ≡ false → Hands c w → given s.counters.version w ≡ intact f → T (lower s.counters.epoch f) → row_by k c (step L s c).answer ≡ keeps
  lower_row c w f e p h r t = by h (lower_answer L s c w f p h r t) (lower_spares L s c w f p h r t)
    where
      reads : given k.version w ≡ intact f
      reads = subst (λ (x : Counters). given x.version w ≡ intact f) e r

      low : T (lower k.epoch f)
      low = subst (λ (x : Counters). T (lower x.epoch f)) e t

      by : {d : Call} {a : Answer} → Hands d w → (is_hello f || not (accepted a)) ≡ true → Spares a → row_by k d a ≡ keeps
      by {a = a} by_held q u = ap (λ (g : Given). row_by_given k g a) reads ∙ row_lower k f a low q u
      by {a = a} by_frame q u = ap (λ (g : Given). row_by_given k g a) reads ∙ row_lower k f a low q u

  given_row : (g : Given) → s.counters.promoted ≡ true → row_by_given k g (on_given L s g).answer ≡ keeps
  unfolding on_given
  given_row (damaged n) p = refl
  given_row (intact f) p = ap (λ (r : Result). row_by_frame k f r.answer) (cond-true _ _ p) ∙ row_refused k f

  same_row : (w : List ℕ) (a : Answer) → s.counters ≡ k → row_by_given k (given k.version w) a ≡ row_by_given k (given s.counters.version w) a
  same_row w a e = ap (λ (x : Counters). row_by_given k (given x.version w) a) (sym e)

  pub promoted_row : (c : Call) (w : List ℕ) → s.counters ≡ k → s.counters.promoted ≡ true → Hands c w → row_by k c (step L s c).answer ≡ keeps
  unfolding step
  promoted_row c w e p by_held = same_row w _ e ∙ given_row (given s.counters.version w) p
  promoted_row c w e p by_frame = same_row w _ e ∙ given_row (given s.counters.version w) p
