-- Each way through the calls that carry no frame is the definition's. Assumes nothing.
use Prim.Native.Nat.{ℕ, ◌≤◌}
use mathlib.Core.Path.{◌≡◌, refl, sym, ap, subst, ◌∙◌}
use mathlib.Core.Bool.{Bool, true, false, cond, not, ◌&&◌, ◌||◌, true≢false}
use mathlib.Core.List.{List}
use native.Mathlib.Omega.{arith}
use lib.ListN.{length, get_or, set, length-set}
use lib.Dec.{eqb}
use borrow.Author.Tests.{eq-eqb, ne_eqb}
use Rattle.base_flags.specs.Flag.{is_set}
use Rattle.base_flags.proofs.Flags.{set_so, clear_so}
use Rattle.standby_row.specs.declared.Bound.{Bound}
use Rattle.standby_row.specs.declared.lookup.Lookup.{Lookup}
use Rattle.standby_segments.specs.Segments.{Holds}
use Rattle.store_areas.specs.declared.Shape.{Shape}
use Rattle.store_areas.specs.Areas.{words_at, bytes_at, allowed, Rules}
use Rattle.store_areas.proofs.Ruling.{rules_of}
use Rattle.store_place.specs.Only.{Only}
use Rattle.standby_pending.proofs.Laws.{cleared}
use Rattle.standby_commit.proofs.Header.{pending_kept}
use Rattle.standby_pending_run.specs.Commits.{Ran}
use Rattle.standby_pending_run.proofs.Head.{word_same, used_kept, places_kept, rules_front, clear_only, clear_rules}
use Rattle.store_sessions.specs.Answers.{TakenOver}
use Rattle.model_standby.specs.Answer.{done}
use Rattle.model_standby.specs.Store.{on_places, taken_over}
use Rattle.model_standby.specs.State.{Call, flush, disconnected_from, promote, promote_unchecked}
use Rattle.model_standby.specs.Core.{Core, CoreResult, leave, clear, core_refuse, core_done, core_run, core_unbound, core_promotion, core_step}
use Rattle.standby_part.specs.State.{core_at}
use Rattle.standby_counters.specs.declared.Replica.{Replica}
use Rattle.standby_state.specs.declared.Settings.{Settings}
use Rattle.standby_state.specs.declared.Answer.{Answer}
use Rattle.standby_state.specs.declared.Outcome.{Outcome}
use Rattle.standby_state.specs.Answers.{is_refused, is_done}
use Rattle.standby_state.specs.Exact.{Exact}
use Rattle.standby_state.specs.Outcomes.{counters_of, settings_of, leaving, clearing}
use Rattle.standby_state.proofs.Exact.{exact_done, exact_refused}
use Rattle.standby_step.specs.Steps.{room_in, found_in, rooms_in, seen_allowed, Stepped, StepIs}
use Rattle.standby_lifecycle.specs.Calls.{promoted_from, Promoted}

-- ---- promotion

pub promoted_is : (s : Shape) (lag : ℕ) (c : Replica) (w b : List ℕ) → Rules s w b → {w1 w' b' : List ℕ} {r : Outcome} {d : Replica} {a : Answer} → w1 ≡ set w 1 0 → TakenOver s lag w1 w' b b'
    → d ≡ promoted_from c → a ≡ is_done → r ≡ clearing d a → Promoted s lag c w w' b b' r
promoted_is s lag c w b r {w1} {w'} {b'} first t₁ e₀ e₁ e₂ =
    let t : TakenOver s lag (set w 1 0) w' b b' = subst (λ (x : List ℕ). TakenOver s lag x w' b b') first t₁ in
    let kept : get_or (set w 1 0) 0 0 ≡ get_or w 0 0 = used_kept s w (set w 1 0) b (clear_only w) in
    let still : Rules s (set w 1 0) b = clear_rules s w b r in
    let long : 66 ≤ length w = omega (arith, r.room.words_long) in
    let long' : 66 ≤ length (set w 1 0) = omega (arith, length-set w 1 0) in
    let rules : Rules s w' b' = rules_front s (set w 1 0) w' b b' t.words.front t.words.same_length t.bytes.same_length still in
    record {
      is = e₂ ∙ (λ j. clearing (e₀ j) (e₁ j));
      places = t.places ∙ ap (on_places (taken_over lag)) (places_kept s w (set w 1 0) b (clear_only w));
      pending = pending_kept (set w 1 0) w' long' still.pending t.words.front ∙ cleared w long;
      rules = rules;
      used = word_same 0 (set w 1 0) w' t.words.front (omega arith) ∙ kept;
      words = subst (λ (k : ℕ). Only 66 (words_at s k) (set w 1 0) w') kept t.words;
      bytes = subst (λ (k : ℕ). Only 0 (bytes_at s k) b b') kept t.bytes;
    }

-- ---- each call

-- the areas at the end, by whichever names
pub at_end : {s : Settings} {c : Replica} {seen : Lookup} {row : List Bound} {call : Call} {w x x' b y y' : List ℕ} {h : Holds} {r : Outcome} → StepIs s c seen row call w x b y h h r → x' ≡ x → y' ≡ y → StepIs s c seen row call w x' b y' h h r
at_end {s} {c} {seen} {row} {call} {w} {x} {x'} {b} {y} {y'} {h} {r} p e f = subst (λ (u : List ℕ). StepIs s c seen row call w u b y' h h r) (sym e) (subst (λ (v : List ℕ). StepIs s c seen row call w x b v h h r) (sym f) p)

module _ (s : Settings) (c : Replica) (seen : Lookup) (row : List Bound) (w b : List ℕ) (h : Holds) where
  abbrev Sound : Bool
  Sound = seen_allowed s.shape seen w b h.bytes

  abbrev Was : Core
  Was = core_at (counters_of c) s.shape w b

  -- 25
  pub unsound : (call : Call) {r : Outcome} → Sound ≡ false → r ≡ leaving c (is_refused 25) → StepIs s c seen row call w w b b h h r
  unsound call off e = record {
    refuses = λ _. (e, (refl, (refl, refl)));
    steps = λ on own. absurd (true≢false (sym on ∙ off));
    exact = subst (λ (x : Outcome). Exact b x.answer) (sym e) (exact_refused b 25);
  }

  pub keeps : Sound ≡ true → Rules s.shape w b
  keeps on = rules_of s.shape w b (front (allowed s.shape w b) _ on)
    where
      front : (t u : Bool) → (t && u) ≡ true → t ≡ true
      front true u e = refl
      front false u e = absurd (true≢false (sym e))

  pub front_there : Sound ≡ true → 66 ≤ length w
  front_there on = omega (arith, (keeps on).room.words_long)

  -- the rules are kept
  module _ (on : Sound ≡ true) where
    stepped : (call : Call) {w' b' : List ℕ} {h' : Holds} {r : Outcome} → Exact b' r.answer → Stepped s c seen row call w w' b b' h h' r → StepIs s c seen row call w w' b b' h h' r
    stepped call is-exact g = record { refuses = λ off. absurd (true≢false (sym on ∙ off)); steps = λ _ own. g; exact = is-exact }

    -- ---- flush

    module _ (n : ℕ) where
      abbrev Flush : Bool → CoreResult
      Flush t = cond t (core_refuse Was leave 22) (core_done (core_run true Was) leave)

      flush_by : (t : Bool) → (not (eqb n c.connections) || is_set c.promoted) ≡ t → core_step (settings_of s (room_in seen h.bytes)) Was (found_in seen h) (rooms_in seen row 0) (flush n) ≡ Flush t
      unfolding core_step
      flush_by t e = ap Flush e

      pub not_flushed : {r : Outcome} → (not (eqb n c.connections) || is_set c.promoted) ≡ true → r ≡ leaving c (is_refused 22) → StepIs s c seen row (flush n) w w b b h h r
      not_flushed e e₁ = subst (StepIs s c seen row (flush n) w w b b h h) (sym e₁) (stepped (flush n) (exact_refused b 22) (record {
        is = sym (flush_by true e);
        lands = tt;
        kept = λ _. refl;
        rules = keeps on;
        more = omega arith;
        leaves = (refl, refl);
        holds = refl;
      }))

      pub flushed : {w' : List ℕ} {r : Outcome} {a : Answer} → (not (eqb n c.connections) || is_set c.promoted) ≡ false → Ran s.shape b w w' → a ≡ is_done → r ≡ leaving c a → StepIs s c seen row (flush n) w w' b b h h r
      flushed {w'} off ran e₁ e₂ = subst (StepIs s c seen row (flush n) w w' b b h h) (sym (e₂ ∙ ap (leaving c) e₁)) (stepped (flush n) (exact_done b) (record {
        is = (λ j. record { core = record { counters = counters_of c; places = ran.places j; pending = ran.pending j }; action = leave; answer = done })
            ∙ sym (flush_by false off);
        lands = tt;
        kept = λ _. refl;
        rules = ran.rules;
        more = omega (arith, ran.used);
        leaves = (ran.words, refl);
        holds = refl;
      }))

    -- ---- a connection lost

    module _ (n : ℕ) where
      abbrev Lost : Bool → CoreResult
      Lost t = cond t (core_done (core_unbound Was) clear) (core_done Was leave)

      lost_by : (t : Bool) → eqb n c.connections ≡ t → core_step (settings_of s (room_in seen h.bytes)) Was (found_in seen h) (rooms_in seen row 0) (disconnected_from n) ≡ Lost t
      unfolding core_step
      lost_by t e = ap Lost e

      -- the words after it, by whether it is the newest connection
      abbrev Left : Bool → List ℕ
      Left t = cond t (set w 1 0) w

      pub other_lost : {r : Outcome} {a : Answer} → (n ≡ c.connections → ⊥) → a ≡ is_done → r ≡ leaving c a → StepIs s c seen row (disconnected_from n) w w b b h h r
      other_lost {r} other e₁ e₂ =
          let e : eqb n c.connections ≡ false = ne_eqb n c.connections other in
          subst (StepIs s c seen row (disconnected_from n) w w b b h h) (sym (e₂ ∙ ap (leaving c) e₁)) (stepped (disconnected_from n) (exact_done b) (record {
            is = sym (lost_by false e);
            lands = tt;
            kept = λ _. refl;
            rules = keeps on;
            more = omega arith;
            leaves = (sym (ap Left e), refl);
            holds = refl;
          }))

      pub own_lost : {w' : List ℕ} {r : Outcome} {a : Answer} → n ≡ c.connections → w' ≡ set w 1 0 → a ≡ is_done → r ≡ clearing c a → StepIs s c seen row (disconnected_from n) w w' b b h h r
      own_lost {w'} {r} same left e₁ e₂ =
          let e : eqb n c.connections ≡ true = eq-eqb n c.connections same in
          let long : 66 ≤ length w = front_there on in
          subst (λ (x : List ℕ). StepIs s c seen row (disconnected_from n) w x b b h h r) (sym left)
          (subst (StepIs s c seen row (disconnected_from n) w (set w 1 0) b b h h) (sym (e₂ ∙ ap (clearing c) e₁)) (stepped (disconnected_from n) (exact_done b) (record {
            is = (λ j. record { core = record { counters = counters_of c; places = places_kept s.shape w (set w 1 0) b (clear_only w) j; pending = cleared w long j }; action = clear; answer = done })
                ∙ sym (lost_by true e);
            lands = tt;
            kept = λ _. refl;
            rules = clear_rules s.shape w b (keeps on);
            more = omega (arith, used_kept s.shape w (set w 1 0) b (clear_only w));
            leaves = (sym (ap Left e), refl);
            holds = refl;
          })))

    -- ---- promotion

    abbrev Promote : Bool → CoreResult
    Promote t = cond t (core_done (core_promotion (settings_of s (room_in seen h.bytes)) Was) clear) (core_refuse Was leave 23)

    promote_by : (t : Bool) → is_set c.checked ≡ t → core_step (settings_of s (room_in seen h.bytes)) Was (found_in seen h) (rooms_in seen row 0) promote ≡ Promote t
    unfolding core_step
    promote_by t e = ap Promote e

    unchecked_by : core_step (settings_of s (room_in seen h.bytes)) Was (found_in seen h) (rooms_in seen row 0) promote_unchecked ≡ Promote true
    unfolding core_step
    unchecked_by = refl

    pub not_checked : {r : Outcome} → c.checked ≡ 0 → r ≡ leaving c (is_refused 23) → StepIs s c seen row promote w w b b h h r
    not_checked off e₁ = subst (StepIs s c seen row promote w w b b h h) (sym e₁) (stepped promote (exact_refused b 23) (record {
      is = sym (promote_by false (clear_so c.checked off));
      lands = tt;
      kept = λ e. absurd (true≢false (sym e));
      rules = keeps on;
      more = omega arith;
      leaves = record { still = λ _. (refl, refl); words = λ e. absurd (true≢false e); bytes = λ e. absurd (true≢false e) };
      holds = refl;
    }))

    module _ {w' b' : List ℕ} {r : Outcome} (p : Promoted s.shape s.max_lag c w w' b b' r) where
      abbrev Is : CoreResult
      Is = record { core = core_at (counters_of (promoted_from c)) s.shape w' b'; action = clear; answer = done }

      is : Is ≡ Promote true
      is = (λ j. record { core = record { counters = counters_of (promoted_from c); places = p.places j; pending = p.pending j }; action = clear; answer = done })

      pub promoted_checked : (c.checked ≡ 0 → ⊥) → StepIs s c seen row promote w w' b b' h h r
      promoted_checked said = subst (StepIs s c seen row promote w w' b b' h h) (sym p.is) (stepped promote (exact_done b') (record {
        is = is ∙ sym (promote_by true (set_so c.checked said));
        lands = tt;
        kept = λ e. absurd (true≢false (sym e));
        rules = p.rules;
        more = omega (arith, p.used);
        leaves = record { still = λ e. absurd (true≢false (sym e)); words = λ _. p.words; bytes = λ _. p.bytes };
        holds = refl;
      }))

      pub promoted_unchecked : StepIs s c seen row promote_unchecked w w' b b' h h r
      promoted_unchecked = subst (StepIs s c seen row promote_unchecked w w' b b' h h) (sym p.is) (stepped promote_unchecked (exact_done b') (record {
        is = is ∙ sym unchecked_by;
        lands = tt;
        kept = λ e. absurd (true≢false (sym e));
        rules = p.rules;
        more = omega (arith, p.used);
        leaves = record { still = λ e. absurd (true≢false (sym e)); words = λ _. p.words; bytes = λ _. p.bytes };
        holds = refl;
      }))
