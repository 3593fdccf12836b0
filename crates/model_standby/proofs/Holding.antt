-- What is written into the hold areas lies inside them, and is what is then held.
-- Assumes nothing.
use mathlib.Core.Path.{◌≡◌, refl, sym, ap, subst, ◌∙◌}
use Prim.Native.Nat.{ℕ, ◌+◌, ◌≤◌}
use native.Mathlib.Omega.{arith}
use mathlib.Core.List.{List, ◌++◌}
use mathlib.Core.Option.{Option, none, some, map}
use mathlib.Core.Bool.{Bool, true, false, cond, not, ◌&&◌, ◌||◌}
use lib.ListN.{length}
use lib.Dec.{T, ltb, nltb→le}
use Rattle.model_frame.specs.Frame.{Change, Part, commit, whole, last_whole, stale_epoch, diverged, AppRecord, Frame, hello, welcome, bind, batch, ack, nack, bound, checked}
use Rattle.model_frame.specs.Parse.{is_empty}
use Rattle.model_frame.specs.Sizes.{sizes}
use Rattle.model_frame.proofs.Runs.{sizes_append}
use Rattle.model_frame.proofs.Sizes.{changes_size}
use Rattle.model_session.proofs.Basics.{and_r, cond_cases, none≢some, some_inj, true≢false}
use Rattle.model_standby.specs.Answer.{Given, damaged, intact, accepted}
use Rattle.model_standby.specs.Row.{is_some, find, put}
use Rattle.model_standby.specs.State.{Settings, Counters, Bound, Standby, Result, at_epoch, none_held}
use Rattle.model_standby.specs.Standby.{with_counters, with_handle, run_pending, due, says, refuse, follows, raised, max_whole, starts_with_reset, summed, holding, settle, hold, on_part, on_handle, on_batch, on_given}
use Rattle.model_standby.specs.Hold.{HoldWrite, held_bytes, held_passes, writes_at, writes_part, writes_frame, writes}
use Rattle.model_standby.proofs.Rows.{find_put_found}

module _ (L : Settings) where
  -- ---- inside

  abbrev Inside : Option HoldWrite → Type 0
  Inside o = (w : HoldWrite) → o ≡ some w → w.offset + length w.bytes ≤ L.room

  none_inside : Inside none
  none_inside w p = absurd (none≢some p)

  inside_at : (h : ℕ) (o : Option Bound) (n : ℕ) (cs : List Change) → Inside (writes_at L h o n cs)
  inside_at h none n cs = none_inside
  inside_at h (some b) n cs =
      cond_cases Inside (held_passes L b n cs)
      (λ t w p. subst (λ (x : HoldWrite). x.offset + length x.bytes ≤ L.room) (some_inj p) (fit t))
      (λ _. none_inside)
    where
      fit : T (held_passes L b n cs) → sizes b.held + length (held_bytes cs) ≤ L.room
      fit t =
          let t₂ = and_r (follows b n) (not (is_empty b.held && not (starts_with_reset cs)) && (not (ltb max_whole (raised b cs)) && not (ltb L.room (sizes (b.held ++ cs))))) t in
          let t₃ = and_r (not (is_empty b.held && not (starts_with_reset cs))) (not (ltb max_whole (raised b cs)) && not (ltb L.room (sizes (b.held ++ cs)))) t₂ in
          let t₄ = and_r (not (ltb max_whole (raised b cs))) (not (ltb L.room (sizes (b.held ++ cs)))) t₃ in
          omega (arith, nltb→le L.room (sizes (b.held ++ cs)) t₄, sizes_append b.held cs, changes_size cs)

  inside_part : (h : ℕ) (o : Option Bound) (n : ℕ) (p : Part) (cs : List Change) → Inside (writes_part L h o n p cs)
  inside_part h o n commit cs = none_inside
  inside_part h o n whole cs = inside_at h o n cs
  inside_part h o n last_whole cs = inside_at h o n cs

  inside_frame : (c : Counters) (o : Option Bound) (f : Frame) → Inside (writes_frame L c o f)
  inside_frame c o (hello v e node kinds) = none_inside
  inside_frame c o (welcome e i) = none_inside
  inside_frame c o (bind h e lag k) = none_inside
  inside_frame c o (batch h e n p cs apps) = cond_cases Inside (not (is_empty apps) || ltb e c.epoch) (λ _. none_inside) (λ _. inside_part h o n p cs)
  inside_frame c o (ack h n) = none_inside
  inside_frame c o (nack h r) = none_inside
  inside_frame c o (bound h m) = none_inside
  inside_frame c o (checked h e i) = none_inside

  -- nothing is written outside the handle's area
  pub writes_inside : (c : Counters) (o : Option Bound) (g : Given) (w : HoldWrite) → writes L c o g ≡ some w → w.offset + length w.bytes ≤ L.room
  unfolding writes
  writes_inside c o (damaged n) = none_inside
  writes_inside c o (intact f) = cond_cases Inside c.promoted (λ _. none_inside) (λ _. inside_frame c o f)

  -- ---- what is then held

  -- it is accepted just if it writes, and then what is written follows what was held
  abbrev pub Agrees : ℕ → List Change → Option Bound → Option HoldWrite → Result → Type 0
  Agrees h cs o w r = (accepted r.answer ≡ is_some w) × ((b : Bound) → o ≡ some b → is_some w ≡ true → map (λ (x : Bound). x.held) (find h r.state.handles) ≡ some (b.held ++ cs))

  -- it is accepted only if it writes
  abbrev pub Needs : Option HoldWrite → Result → Type 0
  Needs w r = accepted r.answer ≡ true → is_some w ≡ true

  at_agrees : (s : Standby) (h n : ℕ) (b : Bound) (cs : List Change) → find h s.handles ≡ some b → Agrees h cs (some b) (writes_at L h (some b) n cs) (on_handle L s h (some b) n whole cs)
  unfolding on_handle on_part hold
  at_agrees s h n b cs f = go (follows b n) (is_empty b.held && not (starts_with_reset cs)) (ltb max_whole (raised b cs)) (ltb L.room (sizes (b.held ++ cs)))
    where
      held_so : map (λ (x : Bound). x.held) (find h (put h (holding b n cs) s.handles)) ≡ some (b.held ++ cs)
      held_so = ap (map (λ (x : Bound). x.held)) (find_put_found h (holding b n cs) b s.handles f)

      go : (fo t16 t17 t18 : Bool)
          → Agrees h cs (some b) (cond (fo && (not t16 && (not t17 && not t18))) (some (record { handle = h; offset = sizes b.held; bytes = held_bytes cs })) none)
          (cond fo
          (cond t16 (refuse s 16)
          (cond t17 (refuse (with_handle s h (summed b cs)) 17)
          (cond t18 (refuse s 18) (says (with_handle s h (holding b n cs)) (ack h n)))))
          (says (with_handle s h (none_held b)) (nack h diverged)))
      go false t16 t17 t18 = (refl, λ c p u. absurd (true≢false (sym u)))
      go true true t17 t18 = (refl, λ c p u. absurd (true≢false (sym u)))
      go true false true t18 = (refl, λ c p u. absurd (true≢false (sym u)))
      go true false false true = (refl, λ c p u. absurd (true≢false (sym u)))
      go true false false false = (refl, λ c p u. held_so ∙ ap (λ (x : Bound). some (x.held ++ cs)) (some_inj p))

  handle_agrees : (s : Standby) (h n : ℕ) (o : Option Bound) (cs : List Change) → find h s.handles ≡ o → Agrees h cs o (writes_at L h o n cs) (on_handle L s h o n whole cs)
  unfolding on_handle
  handle_agrees s h n none cs f = (refl, λ c p u. absurd (true≢false (sym u)))
  handle_agrees s h n (some b) cs f = at_agrees s h n b cs f

  handle_needs : (s : Standby) (h n : ℕ) (o : Option Bound) (cs : List Change) → Needs (writes_at L h o n cs) (on_handle L s h o n last_whole cs)
  unfolding on_handle on_part hold
  handle_needs s h n none cs = λ u. absurd (true≢false (sym u))
  handle_needs s h n (some b) cs = go (follows b n) (is_empty b.held && not (starts_with_reset cs)) (ltb max_whole (raised b cs)) (ltb L.room (sizes (b.held ++ cs)))
    where
      go : (fo t16 t17 t18 : Bool)
          → Needs (cond (fo && (not t16 && (not t17 && not t18))) (some (record { handle = h; offset = sizes b.held; bytes = held_bytes cs })) none)
          (cond fo
          (cond t16 (refuse s 16)
          (cond t17 (refuse (with_handle s h (summed b cs)) 17)
          (cond t18 (refuse s 18) (settle L s h (none_held b) n (b.held ++ cs)))))
          (says (with_handle s h (none_held b)) (nack h diverged)))
      go false t16 t17 t18 u = absurd (true≢false (sym u))
      go true true t17 t18 u = absurd (true≢false (sym u))
      go true false true t18 u = absurd (true≢false (sym u))
      go true false false true u = absurd (true≢false (sym u))
      go true false false false u = refl

  module _ (s : Standby) (h e n : ℕ) (cs : List Change) (apps : List AppRecord) where
    -- A Whole is accepted just if it writes, and then the handle holds what it held, followed by what was written.
    pub whole_writes : Agrees h cs (find h s.handles) (writes L s.counters (find h s.handles) (intact (batch h e n whole cs apps))) (on_given L s (intact (batch h e n whole cs apps)))
    unfolding writes on_given on_batch
    whole_writes = go s.counters.promoted (not (is_empty apps)) (ltb e s.counters.epoch)
      where
        s₁ : Standby
        s₁ = run_pending (due s.pending (batch h e n whole cs apps)) s

        go : (q a b : Bool)
            → Agrees h cs (find h s.handles) (cond q none (cond (a || b) none (writes_at L h (find h s.handles) n cs)))
            (cond q (refuse s 10) (cond a (refuse s₁ 13) (cond b (says s₁ (nack h stale_epoch)) (on_handle L (with_counters s₁ (at_epoch e s.counters)) h (find h s.handles) n whole cs))))
        go true a b = (refl, λ c p u. absurd (true≢false (sym u)))
        go false true b = (refl, λ c p u. absurd (true≢false (sym u)))
        go false false true = (refl, λ c p u. absurd (true≢false (sym u)))
        go false false false = handle_agrees (with_counters s₁ (at_epoch e s.counters)) h n (find h s.handles) cs refl

    -- A LastWhole is accepted only if it writes.
    pub last_writes : Needs (writes L s.counters (find h s.handles) (intact (batch h e n last_whole cs apps))) (on_given L s (intact (batch h e n last_whole cs apps)))
    unfolding writes on_given on_batch
    last_writes = go s.counters.promoted (not (is_empty apps)) (ltb e s.counters.epoch)
      where
        s₁ : Standby
        s₁ = run_pending (due s.pending (batch h e n last_whole cs apps)) s

        go : (q a b : Bool)
            → Needs (cond q none (cond (a || b) none (writes_at L h (find h s.handles) n cs)))
            (cond q (refuse s 10) (cond a (refuse s₁ 13) (cond b (says s₁ (nack h stale_epoch)) (on_handle L (with_counters s₁ (at_epoch e s.counters)) h (find h s.handles) n last_whole cs))))
        go true a b u = absurd (true≢false (sym u))
        go false true b u = absurd (true≢false (sym u))
        go false false true u = absurd (true≢false (sym u))
        go false false false u = handle_needs (with_counters s₁ (at_epoch e s.counters)) h n (find h s.handles) cs u
