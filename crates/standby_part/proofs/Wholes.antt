-- A Whole's ways are the definition's; a LastWhole's up to where it is settled. Assumes nothing.
use mathlib.Core.Path.{◌≡◌, refl, sym, ap, subst, ◌∙◌}
use mathlib.Core.Bool.{Bool, true, false, cond, not, ◌&&◌}
use Rattle.std.specs.Prelude.{Result, Ok, Err}
use Rattle.base_refusals.specs.declared.Refusal.{Refusal}
use Rattle.base_refusals.specs.Numbers.{number_of}
use mathlib.Core.List.{List, [], ◌++◌}
use Prim.Native.Nat.{ℕ, ◌+◌, ◌<◌, ◌≤◌}
use native.Mathlib.Omega.{arith}
use lib.ListN.{length, get_or, take}
use lib.Seq.{take-take}
use lib.Dec.{ltb, T}
use borrow.Author.Tests.{eqb-false, ltb-false}
use Rattle.model_frame.specs.Bytes.{is_bytes}
use Rattle.model_frame.specs.Frame.{Part, Change, whole, last_whole, ack}
use Rattle.model_frame.specs.Parse.{is_empty}
use Rattle.model_frame.specs.Sizes.{sizes}
use Rattle.model_frame.proofs.Runs.{sizes_append}
use Rattle.model_frame.proofs.Le.{are_bytes, bytes_take}
use Rattle.frame_op.specs.Answers.{held_run}
use Rattle.standby_changes.specs.Held.{TakesAll}
use Rattle.standby_segments.specs.Segments.{Holds, hold_areas, closed_ends, held_changes, held_in, ends_after, with_run}
use Rattle.standby_segments.proofs.Meaning.{none_held, held_again}
use Rattle.standby_segments.proofs.Whole.{held_after, held_last, ends_by_used}
use Rattle.frame_fields.specs.declared.CommitNumber.{CommitNumber}
use Rattle.standby_row.specs.declared.Bound.{Bound}
use Rattle.store_areas.specs.declared.Shape.{Shape}
use Rattle.store_areas.specs.Areas.{Rules}
use Rattle.standby_commit.proofs.Laws.{none_changed}
use Rattle.standby_hold.specs.declared.HeldBytes.{HeldBytes}
use Rattle.standby_hold.specs.declared.HoldError.{HoldError}
use Rattle.standby_hold.specs.declared.NotHeld.{NotHeld}
use Rattle.standby_hold.specs.Holding.{sum_of, hold_refusal, HoldIs}
use Rattle.standby_hold.proofs.Laws.{within}
use Rattle.model_standby.specs.Answer.{reply, refused}
use Rattle.model_standby.specs.State.{Settings, Counters}
use Rattle.model_standby.specs.State as state
use Rattle.model_standby.specs.Standby.{max_whole, starts_with_reset, summed, holding}
use Rattle.model_standby.specs.Core.{leave, store, Core, CoreResult, core_says, core_refuse, core_settle, core_hold, core_part}
use Rattle.standby_part.specs.State.{bound_of, core_at, settings_for, holding_to}
use Rattle.standby_part.specs.declared.PartResult.{PartResult}
use Rattle.standby_part.specs.Part.{not_held, SettledIs, PartIs}
use Rattle.standby_part.proofs.Parts.{GoesTo, settled_part}

-- three tests and the number that they give
module _ {A : Type 0} (x y z go : A) where
  abbrev Tests : Bool → Bool → Bool → A
  Tests a b c = cond a x (cond b y (cond c z go))

  abbrev Number : Bool → Bool → Bool → ℕ
  Number a b c = cond a 16 (cond b 17 (cond c 18 0))

  when_0 : (a b c : Bool) → Number a b c ≡ 0 → Tests a b c ≡ go
  when_0 true b c e = absurd (eqb-false 16 0 refl e)
  when_0 false true c e = absurd (eqb-false 17 0 refl e)
  when_0 false false true e = absurd (eqb-false 18 0 refl e)
  when_0 false false false e = refl

  when_17 : (a b c : Bool) → Number a b c ≡ 17 → Tests a b c ≡ y
  when_17 true b c e = absurd (eqb-false 16 17 refl e)
  when_17 false true c e = refl
  when_17 false false true e = absurd (eqb-false 18 17 refl e)
  when_17 false false false e = absurd (eqb-false 0 17 refl e)

-- the last test does not hold
last_off : (a b c : Bool) → ◌≡◌ {A = ℕ} (cond a 16 (cond b 17 (cond c 18 0))) 0 → c ≡ false
last_off true b c e = absurd (eqb-false 16 0 refl e)
last_off false true c e = absurd (eqb-false 17 0 refl e)
last_off false false true e = absurd (eqb-false 18 0 refl e)
last_off false false false e = refl

-- the two that change nothing
other : (k : Core) (y go : CoreResult) (a b c : Bool) → (Number (core_refuse k leave 16) y (core_refuse k leave 18) go a b c ≡ 0 → ⊥) → (Number (core_refuse k leave 16) y (core_refuse k leave 18) go a b c ≡ 17 → ⊥)
    → Tests (core_refuse k leave 16) y (core_refuse k leave 18) go a b c ≡ core_refuse k leave (Number (core_refuse k leave 16) y (core_refuse k leave 18) go a b c)
other k y go true b c n m = refl
other k y go false true c n m = absurd (m refl)
other k y go false false true n m = refl
other k y go false false false n m = absurd (n refl)

module _ (version : ℕ) (h : Bound) (n : CommitNumber) (run : List ℕ) (area : Holds) (s : Shape) (w b : List ℕ) (c : Counters) (incarnation lag : ℕ) (go : CoreResult)
    {bytes' : List ℕ} {r : Result HeldBytes NotHeld} (g : HoldIs version run area h.held_len h.held_bytes bytes' r) where
  abbrev L : Settings
  L = settings_for s (length area.bytes) incarnation lag

  abbrev H : List Change
  H = held_in version area h.held_len

  abbrev cs : List Change
  cs = held_run version run

  abbrev k : Core
  k = core_at c s w b

  abbrev X17 : CoreResult
  X17 = core_refuse k (store h.handle (summed (bound_of version h area) cs)) 17

  abbrev t1 : Bool
  t1 = is_empty H && not (starts_with_reset cs)

  abbrev t2 : Bool
  t2 = ltb max_whole (sum_of H h.held_bytes cs)

  abbrev t3 : Bool
  t3 = ltb (length area.bytes) (sizes H + sizes cs)

  hold_tests : core_hold L k h.handle (bound_of version h area) cs go ≡ Tests (core_refuse k leave 16) X17 (core_refuse k leave 18) go t1 t2 t3
  unfolding core_hold
  hold_tests = ap (λ (m : ℕ). cond t1 (core_refuse k leave 16) (cond t2 X17 (cond (ltb (length area.bytes) m) (core_refuse k leave 18) go))) (sizes_append H cs)

  pub hold_goes : hold_refusal r ≡ 0 → core_hold L k h.handle (bound_of version h area) cs go ≡ go
  hold_goes e = hold_tests ∙ when_0 (core_refuse k leave 16) X17 (core_refuse k leave 18) go t1 t2 t3 (sym g.refusal ∙ e)

  pub hold_sum : hold_refusal r ≡ 17 → core_hold L k h.handle (bound_of version h area) cs go ≡ X17
  hold_sum e = hold_tests ∙ when_17 (core_refuse k leave 16) X17 (core_refuse k leave 18) go t1 t2 t3 (sym g.refusal ∙ e)

  pub hold_refuses : (hold_refusal r ≡ 0 → ⊥) → (hold_refusal r ≡ 17 → ⊥) → core_hold L k h.handle (bound_of version h area) cs go ≡ core_refuse k leave (hold_refusal r)
  hold_refuses zero seventeen =
      hold_tests ∙ other k X17 go t1 t2 t3 (λ e. zero (g.refusal ∙ e)) (λ e. seventeen (g.refusal ∙ e)) ∙ ap (core_refuse k leave) (sym g.refusal)

-- ---- the refusals, of a Whole and of a LastWhole

-- the part's definition goes on with `go` where nothing is refused
abbrev pub GoesOn : ℕ → Bound → ℕ → Part → List ℕ → Holds → Shape → List ℕ → List ℕ → (Counters → ℕ → ℕ → CoreResult) → Type 0
GoesOn version h n part run area s w b go = (c : Counters) (incarnation lag : ℕ)
    → core_part (settings_for s (length area.bytes) incarnation lag) (core_at c s w b) h.handle (bound_of version h area) n part (held_run version run)
    ≡ core_hold (settings_for s (length area.bytes) incarnation lag) (core_at c s w b) h.handle (bound_of version h area) (held_run version run) (go c incarnation lag)

module _ (version : ℕ) (h : Bound) (n : CommitNumber) (run : List ℕ) (area : Holds) (s : Shape) (w b : List ℕ) (rules : Rules s w b) (part : Part) (go : Counters → ℕ → ℕ → CoreResult) (on : GoesOn version h n.0 part run area s w b go)
    (known : (i : ℕ) → get_or area.bytes i 0 < 256) (bytes' : List ℕ) where
  abbrev J : List Change
  J = held_in version area h.held_len

  abbrev area' : Holds
  area' = hold_areas bytes' area.ends

  abbrev Is : PartResult → Type 0
  Is d = PartIs version s h n.0 part (held_run version run) w w b b area area' d

  -- what was held stays so, and is counted
  sum_kept : (x : HeldBytes) → HoldIs version run area h.held_len h.held_bytes bytes' (Err (record { why = HoldError.TooManyBytes; held = x })) → Is (not_held h x HoldError.TooManyBytes)
  sum_kept x g = record {
    is = λ c incarnation lag.
        (λ j. record {
          core = core_at c s w b;
          action = store h.handle (record { place = h.place; number = h.commit_no.0; held = front j; bytes = g.summed j });
          answer = refused 17;
        })
        ∙ sym (on c incarnation lag ∙ hold_sum version h n run area s w b c incarnation lag (go c incarnation lag) g refl);
    rules = rules;
    store_after = none_changed s h.handle h.place part w b refl;
    slot = record { place = refl; len = λ _. (within version h.held_len area known g.ends).0; held = g.ends ∙ sym (ap sizes front) };
  }
    where
      bs : T (is_bytes (take h.held_len area.bytes))
      bs = bytes_take h.held_len area.bytes (are_bytes area.bytes known)

      short : sizes J ≤ h.held_len
      short = (within version h.held_len area known refl).1

      front : held_in version area' x.used ≡ J
      front =
          (λ j. held_changes version area.ends (take (g.ends j) (g.written j)))
          ∙ ap (held_changes version area.ends) (sym (take-take (sizes J) h.held_len area.bytes short))
          ∙ held_again version area.ends (take h.held_len area.bytes) bs

  -- the two that change nothing
  turned_down : (e : Refusal) (r : Result HeldBytes NotHeld) → HoldIs version run area h.held_len h.held_bytes bytes' r → hold_refusal r ≡ number_of e → (number_of e ≡ 0 → ⊥) → (number_of e ≡ 17 → ⊥) → Is (PartResult.Refused e)
  turned_down e r g is zero seventeen = record {
    is = λ c incarnation lag.
        sym (on c incarnation lag
        ∙ hold_refuses version h n run area s w b c incarnation lag (go c incarnation lag) g (λ q. zero (sym is ∙ q)) (λ q. seventeen (sym is ∙ q))
        ∙ ap (core_refuse (core_at c s w b) leave) is);
    rules = rules;
    store_after = none_changed s h.handle h.place part w b refl;
    slot = tt;
  }

  pub not_held_is : (x : HeldBytes) (e : HoldError) → HoldIs version run area h.held_len h.held_bytes bytes' (Err (record { why = e; held = x })) → Is (not_held h x e)
  not_held_is x HoldError.NoReset g = turned_down Refusal.NoReset _ g refl (eqb-false 16 0 refl) (eqb-false 16 17 refl)
  not_held_is x HoldError.TooManyBytes g = sum_kept x g
  not_held_is x HoldError.AreaFull g = turned_down Refusal.HoldAreaFull _ g refl (eqb-false 18 0 refl) (eqb-false 18 17 refl)

-- ---- Whole

module _ (version : ℕ) (h : Bound) (n : CommitNumber) (run : List ℕ) (area : Holds) where
  abbrev K : List Change
  K = held_in version area h.held_len

  pub whole_on : (s : Shape) (w b : List ℕ) → GoesOn version h n.0 whole run area s w b (λ c _ _. core_says (core_at c s w b) (store h.handle (holding (bound_of version h area) n.0 (held_run version run))) (ack h.handle n.0))
  unfolding core_part
  whole_on s w b c incarnation lag = refl

  abbrev pub Settle : Shape → List ℕ → List ℕ → Counters → ℕ → ℕ → CoreResult
  Settle s w b c incarnation lag = core_settle (settings_for s (length area.bytes) incarnation lag) (core_at c s w b) h.handle (state.none_held (bound_of version h area)) n.0 (K ++ held_run version run)

  pub last_on : (s : Shape) (w b : List ℕ) → GoesOn version h n.0 last_whole run area s w b (Settle s w b)
  unfolding core_part
  last_on s w b c incarnation lag = refl

  module _ (known : (i : ℕ) → get_or area.bytes i 0 < 256) (hr : T (is_bytes run)) (len : h.held_len ≤ length area.bytes) (all : TakesAll version run)
      {bytes' : List ℕ} (x : HeldBytes) (g : HoldIs version run area h.held_len h.held_bytes bytes' (Ok x)) where
    within_area : sizes K + length run ≤ length area.bytes
    within_area =
        let room : ltb (length area.bytes) (sizes K + sizes (held_run version run)) ≡ false =
        last_off (is_empty K && not (starts_with_reset (held_run version run))) (ltb max_whole (sum_of K h.held_bytes (held_run version run))) (ltb (length area.bytes) (sizes K + sizes (held_run version run))) (sym g.refusal) in
        omega (arith, ltb-false (length area.bytes) (sizes K + sizes (held_run version run)) room, all)

    pub used_within : x.used ≤ length area.bytes
    used_within = omega (arith, within_area, g.ends)

    ha : T (is_bytes area.bytes)
    ha = are_bytes area.bytes known

    -- what is held then: those before, and its own
    abbrev Closed : Holds
    Closed = hold_areas bytes' (ends_after area.ends h.held_len x.used)

    held_now : held_in version Closed x.used ≡ K ++ held_run version run
    held_now = (λ j. held_changes version (ends_after area.ends h.held_len (g.ends j)) (take (g.ends j) (g.written j))) ∙ held_after version area.ends area.bytes run h.held_len ha hr all len within_area

    pub whole_area : Closed ≡ with_run true (sizes K) run area
    whole_area = λ j. record { bytes = g.written j; ends = (ap (ends_after area.ends h.held_len) g.ends ∙ ends_by_used version area.ends area.bytes run h.held_len ha hr all len within_area (sizes K + length run)) j }

    pub whole_held : (s : Shape) (w b : List ℕ) → Rules s w b → PartIs version s h n.0 whole (held_run version run) w w b b area Closed (PartResult.Accepted (holding_to h n x.used x.sum))
    unfolding core_part
    whole_held s w b rules = record {
      is = λ c incarnation lag.
          (λ j. record {
            core = core_at c s w b;
            action = store h.handle (record { place = h.place; number = n.0; held = held_now j; bytes = g.summed j });
            answer = reply (ack h.handle n.0);
          })
          ∙ sym (hold_goes version h n run area s w b c incarnation lag (core_says (core_at c s w b) (store h.handle (holding (bound_of version h area) n.0 (held_run version run))) (ack h.handle n.0)) g refl);
      rules = rules;
      store_after = (refl, refl);
      slot = record {
        place = refl;
        len = λ _. used_within;
        held = omega (arith, g.ends, ap sizes held_now, sizes_append K (held_run version run), all);
      };
    }

    -- ---- LastWhole

    -- by the words that counted before it
    last_now : held_in version (hold_areas bytes' (closed_ends area.ends 0 h.held_len)) x.used ≡ K ++ held_run version run
    last_now = (λ j. held_changes version (closed_ends area.ends 0 h.held_len) (take (g.ends j) (g.written j))) ∙ held_last version area.ends area.bytes run h.held_len ha hr all len within_area

    module _ (s : Shape) (w b : List ℕ) (used : h.place < get_or w 0 0) where
      on : GoesTo version s h n last_whole (held_run version run) (K ++ held_run version run) w b area (hold_areas bytes' area.ends) [] 0 used
      on c incarnation lag = last_on s w b c incarnation lag ∙ hold_goes version h n run area s w b c incarnation lag (Settle s w b c incarnation lag) g refl

      pub last_settled : {w' b' : List ℕ} {d : PartResult} → SettledIs s (holding_to h h.commit_no 0 0) n (held_in version (hold_areas bytes' (closed_ends area.ends 0 h.held_len)) x.used) w w' b b' d
          → PartIs version s h n.0 last_whole (held_run version run) w w' b b' area (hold_areas bytes' area.ends) d
      last_settled {w'} {b'} {d} t =
          settled_part version s h n last_whole (held_run version run) (K ++ held_run version run) w b area (hold_areas bytes' area.ends) [] 0 used (none_held version area.ends) on (λ t. refl)
          (subst (λ (l : List Change). SettledIs s (holding_to h h.commit_no 0 0) n l w w' b b' d) last_now t)
