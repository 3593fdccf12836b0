-- Two actives, one standby: proved.
-- Assumes nothing.
use mathlib.Core.Path.{◌≡◌, refl, ap, ◌∙◌}
use Prim.Native.Nat.{ℕ, ◌<◌, ◌≤◌}
use native.Mathlib.Omega.{arith}
use mathlib.Core.List.{List, ◌∷◌, ◌++◌}
use mathlib.Core.Option.{Option, none, some}
use mathlib.Core.Bool.{Bool, true, false, cond, not, ◌&&◌, ◌||◌}
use lib.Dec.{T, ltb, ltb→lt, nltb→le}
use borrow.Author.Tests.{lt-ltb}
use lib.ListN.{length}
use Rattle.model_frame.specs.Frame.{Key, Change, Part, commit, whole, last_whole, restarted, Frame, hello, welcome, bind, batch, ack, nack, bound, checked}
use Rattle.model_frame.specs.Parse.{is_empty}
use Rattle.model_frame.specs.Sizes.{sizes}
use Rattle.model_session.specs.Session.{suits, fits}
use Rattle.model_session.proofs.Basics.{cond_cases, cond-false, eqb_true, true→T}
use Rattle.model_standby.specs.Answer.{Given, intact, given, lower, is_reply}
use Rattle.model_standby.specs.Store.{session_at, place_of, is_stored, or_new}
use Rattle.model_standby.specs.Row.{find}
use Rattle.model_standby.specs.State.{Settings, incarnation_of, Counters, Bound, Standby, Result, Call, at_epoch, connected, checked_at, none_held}
use Rattle.model_standby.specs.Handles.{room_at}
use Rattle.model_standby.specs.Standby.{with_counters, unbound, says, refuse, run_pending, due, follows, raised, max_whole, starts_with_reset, settle, hold, on_part, on_hello, on_checked, on_batch, on_handle, on_bind, on_intact, on_given, step, run}
use Rattle.model_standby.specs.Demand.{Hands, by_held, by_frame}
use Rattle.model_standby.proofs.Sanity.{epoch_never_falls, lower_frame, promoted_held, promoted_frame}
use Rattle.model_standby.proofs.Places.{pending_session}
use Rattle.model_two_actives.specs.TwoActives.{OnlyCommits, Deposing, by_hello, by_batch, by_checked, Takes, raised_to, ModelTwoActives}

only_commits : (s : Standby) (now : Bool) (s₁ : Standby) → s₁ ≡ run_pending now s → OnlyCommits s s₁
only_commits s now s₁ e =
    record {
      counters = ap (λ (x : Standby). x.counters) e;
      handles = ap (λ (x : Standby). x.handles) e;
      sessions = λ n. ap (λ (x : Standby). session_at x.places n) e ∙ pending_session now s n;
      commits = (now, e);
    }

-- once or twice is the same
twice : (a b : Bool) (s : Standby) → run_pending a (run_pending b s) ≡ run_pending (a || b) s
twice true true s = refl
twice true false s = refl
twice false true s = refl
twice false false s = refl

below : (a b e : ℕ) → a ≤ b → T (ltb e a) → T (ltb e b)
below a b e h t = true→T (ltb e b) (lt-ltb e b (omega (arith, ltb→lt e a t)))

-- a frame below a lower epoch is below a higher one
pub lower_more : (a b : ℕ) (f : Frame) → a ≤ b → T (lower a f) → T (lower b f)
lower_more a b (hello v e node kinds) h t = below a b e h t
lower_more a b (welcome e i) h t = below a b e h t
lower_more a b (bind h₁ e lag k) h t = below a b e h t
lower_more a b (batch h₁ e n p cs apps) h t = below a b e h t
lower_more a b (ack h₁ n) h t = t
lower_more a b (nack h₁ r) h t = t
lower_more a b (bound h₁ m) h t = t
lower_more a b (checked h₁ e i) h t = below a b e h t

-- ---- a Batch past its epoch changes no counter

module _ (L : Settings) (s : Standby) where
  abbrev Same : Result → Type 0
  Same r = r.state.counters ≡ s.counters

  same_settle : (h : ℕ) (b : Bound) (n : ℕ) (cs : List Change) → Same (settle L s h b n cs)
  unfolding settle
  same_settle h b n cs = cond_cases Same (fits (or_new (session_at s.places b.place)).next_out cs) (λ _. refl) (λ _. refl)

  same_hold : (h : ℕ) (b : Bound) (cs : List Change) (go : Result) → Same go → Same (hold L s h b cs go)
  unfolding hold
  same_hold h b cs go g =
      cond_cases Same (is_empty b.held && not (starts_with_reset cs)) (λ _. refl)
      (λ _. cond_cases Same (ltb max_whole (raised b cs)) (λ _. refl) (λ _. cond_cases Same (ltb L.room (sizes (b.held ++ cs))) (λ _. refl) (λ _. g)))

  same_part : (h : ℕ) (b : Bound) (n : ℕ) (p : Part) (cs : List Change) → Same (on_part L s h b n p cs)
  unfolding on_part
  same_part h b n commit cs = cond_cases Same (not (is_empty b.held)) (λ _. refl) (λ _. same_settle h b n cs)
  same_part h b n whole cs = same_hold h b cs _ refl
  same_part h b n last_whole cs = same_hold h b cs _ (same_settle h (none_held b) n (b.held ++ cs))

  same_handle : (h : ℕ) (o : Option Bound) (n : ℕ) (p : Part) (cs : List Change) → Same (on_handle L s h o n p cs)
  unfolding on_handle
  same_handle h none n p cs = refl
  same_handle h (some b) n p cs = cond_cases Same (follows b n) (λ _. same_part h b n p cs) (λ _. refl)

module _ (L : Settings) (s : Standby) (unpromoted : s.counters.promoted ≡ false) where
  abbrev E : ℕ
  E = s.counters.epoch

  stale_call : (c : Call) (w : List ℕ) (f : Frame) → Hands c w → given s.counters.version w ≡ intact f → T (lower E f) → OnlyCommits s (step L s c).state
  unfolding step
  stale_call c w f by_held r t = only_commits s (due s.pending f) _ (ap (λ (g : Given). (on_given L s g).state) r ∙ lower_frame L s f unpromoted t)
  stale_call c w f by_frame r t =
      only_commits s (is_reply (on_given L s (given s.counters.version w)).answer || due s.pending f) _
      (ap (run_pending (is_reply (on_given L s (given s.counters.version w)).answer)) (ap (λ (g : Given). (on_given L s g).state) r ∙ lower_frame L s f unpromoted t)
      ∙ twice (is_reply (on_given L s (given s.counters.version w)).answer) (due s.pending f) s)

  -- ---- the epoch after a frame

  -- e below E: E stays; else e
  either : (s₁ : Standby) (e : ℕ) (x y : Result) → s₁.counters ≡ s.counters → x.state.counters.epoch ≡ s₁.counters.epoch → y.state.counters.epoch ≡ e
      → (cond (ltb e s₁.counters.epoch) x y).state.counters.epoch ≡ raised_to s e
  either s₁ e x y same p q =
      cond_cases (λ (r : Result). r.state.counters.epoch ≡ raised_to s e) (ltb e s₁.counters.epoch)
      (λ t. let u : e < s₁.counters.epoch = ltb→lt e s₁.counters.epoch t in p ∙ ap (λ (c : Counters). c.epoch) same ∙ omega (arith, u, ap (λ (c : Counters). c.epoch) same))
      (λ t. let u : s₁.counters.epoch ≤ e = nltb→le e s₁.counters.epoch t in q ∙ omega (arith, u, ap (λ (c : Counters). c.epoch) same))

  raised_by : (s₁ : Standby) (e : ℕ) (f : Frame) → s₁.counters ≡ s.counters → Deposing L e f → (on_intact L s₁ f).state.counters.epoch ≡ raised_to s e
  unfolding on_hello on_batch on_checked
  raised_by s₁ e f same (by_hello {v} {node} t) =
      ap (λ (b : Bool). (cond (not b) (refuse s₁ 11) (cond (ltb e s₁.counters.epoch) (says s₁ (welcome s₁.counters.epoch (incarnation_of L))) (says (with_counters (unbound s₁) (connected v e s₁.counters)) (welcome e (incarnation_of L))))).state.counters.epoch) t
      ∙ either s₁ e _ _ same refl refl
  raised_by s₁ e f same (by_batch {h} {n} {p} {cs}) =
      either s₁ e _ _ same refl (ap (λ (c : Counters). c.epoch) (same_handle L (with_counters s₁ (at_epoch e s₁.counters)) h (find h s₁.handles) n p cs))
  raised_by s₁ e f same (by_checked {h}) =
      either s₁ e _ _ same refl (ap (λ (b : Bool). (cond (not b) (says s₁ (nack h restarted)) (says (with_counters s₁ (checked_at e s₁.counters)) (ack h 0))).state.counters.epoch) (eqb_true (incarnation_of L)))

  -- due commits, then the frame: whatever is answered
  epoch_after : (c : Call) (w : List ℕ) (f : Frame) (n : ℕ) → Hands c w → given s.counters.version w ≡ intact f → (on_intact L (run_pending (due s.pending f) s) f).state.counters.epoch ≡ n → (step L s c).state.counters.epoch ≡ n
  unfolding step on_given
  epoch_after c w f n by_held r e = ap (λ (g : Given). (on_given L s g).state.counters.epoch) r ∙ ap (λ (x : Result). x.state.counters.epoch) (cond-false _ _ unpromoted) ∙ e
  epoch_after c w f n by_frame r e = ap (λ (g : Given). (on_given L s g).state.counters.epoch) r ∙ ap (λ (x : Result). x.state.counters.epoch) (cond-false _ _ unpromoted) ∙ e

  raises_call : (c : Call) (e : ℕ) (f : Frame) → Takes s.counters.version c f → Deposing L e f → (step L s c).state.counters.epoch ≡ raised_to s e
  raises_call c e f t d = epoch_after c t.bytes f (raised_to s e) t.hands t.reads (raised_by (run_pending (due s.pending f) s) e f refl d)

  -- ---- a Bind

  bound_epoch : (s₁ : Standby) (h e lag : ℕ) (k : Key) → (on_bind L s₁ h e lag k).state.counters.epoch ≡ s₁.counters.epoch
  unfolding on_bind
  bound_epoch s₁ h e lag k =
      cond_cases P (ltb e s₁.counters.epoch) (λ _. refl)
      (λ _. cond_cases P (ltb L.lag lag) (λ _. refl)
      (λ _. cond_cases P (not (suits s₁.counters.version (or_new (session_at s₁.places (place_of k s₁.places))).stamp)) (λ _. refl)
      (λ _. cond_cases P (not (is_stored k s₁.places || ltb (length s₁.places) L.S)) (λ _. refl)
      (λ _. cond_cases P (not (room_at h s₁.handles (place_of k s₁.places))) (λ _. refl) (λ _. refl)))))
    where
      P : Result → Type 0
      P r = r.state.counters.epoch ≡ s₁.counters.epoch

-- ---- after promotion

pub promoted_call : (L : Settings) (s : Standby) (c : Call) (w : List ℕ) → s.counters.promoted ≡ true → Hands c w → (step L s c).state ≡ s
promoted_call L s c w p by_held = promoted_held L s w p
promoted_call L s c w p by_frame = promoted_frame L s w p

pub two_actives : (L : Settings) (s : Standby) → s.counters.promoted ≡ false → ModelTwoActives L s
two_actives L s p =
    record {
      never_falls = epoch_never_falls L s;
      lower_leaves = λ c f t l. stale_call L s p c t.bytes f t.hands t.reads l;
      raises = raises_call L s p;
      deposes = λ c e f t d cs q x g u l.
          let z = run L s (c ∷ cs) in
          let high : e ≤ z.counters.epoch = omega (arith, raises_call L s p c e f t d, epoch_never_falls L (step L s c).state cs) in
          stale_call L z q x u.bytes g u.hands u.reads (lower_more e z.counters.epoch g high l);
      not_by_bind = λ c h e lag k t. epoch_after L s p c t.bytes (bind h e lag k) E₀ t.hands t.reads (bound_epoch L s p (run_pending (due s.pending (bind h e lag k)) s) h e lag k);
      promoted = λ cs q d w h. promoted_call L (run L s cs) d w q h;
    }
  where
    E₀ : ℕ
    E₀ = s.counters.epoch
