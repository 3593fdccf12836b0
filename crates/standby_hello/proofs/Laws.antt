-- Each way through Hello and Checked is the definition's. Assumes nothing.
use mathlib.Core.Path.{◌≡◌, refl, sym, ap, subst, ◌∙◌}
use mathlib.Core.Bool.{Bool, true, false, cond, not, true≢false}
use mathlib.Core.List.{List, []}
use Prim.Native.Nat.{ℕ, ◌<◌, ◌≤◌, max}
use lib.Dec.{eqb, ltb}
use borrow.Author.Tests.{lt-ltb, le-ltb, ne_eqb, eq-eqb}
use Rattle.model_text.specs.Version.{is_version}
use Rattle.frame_stamp.specs.Versions.{version_of}
use Rattle.model_frame.specs.Frame.{welcome, nack, ack, stale_epoch, restarted}
use Rattle.model_frame.specs.Parse.{is_empty}
use Rattle.frame_fields.specs.declared.Epoch.{Epoch}
use Rattle.frame_fields.specs.declared.Incarnation.{Incarnation}
use Rattle.standby_row.specs.declared.Bound.{Bound}
use Rattle.standby_row.specs.declared.lookup.Lookup.{Lookup}
use Rattle.model_standby.specs.Answer.{reply}
use Rattle.model_standby.specs.Store.{Place}
use Rattle.model_standby.specs.State.{connected, checked_at}
use Rattle.model_standby.specs.State as state
use Rattle.model_standby.specs.Core.{Core, CoreResult, leave, clear, core_says, core_refuse, counting, core_unbound, core_hello, core_checked}
use Rattle.standby_segments.specs.Segments.{Holds}
use Rattle.standby_counters.specs.declared.Replica.{Replica}
use Rattle.standby_state.specs.declared.Settings.{Settings}
use Rattle.standby_state.specs.declared.Answer.{Answer}
use Rattle.standby_state.specs.declared.Outcome.{Outcome}
use Rattle.standby_state.specs.declared.RowAction.{RowAction}
use Rattle.standby_state.specs.Answers.{answer_of, is_refused, is_welcome, is_nack, is_ack}
use Rattle.standby_state.specs.Exact.{Exact}
use Rattle.standby_state.specs.Outcomes.{counters_of, settings_of, leaving, clearing, stores, Lands}
use Rattle.standby_state.proofs.Exact.{exact_refused, exact_welcome, exact_nack, exact_ack}
use Rattle.standby_hello.specs.Greeting.{connected_to, checked_to, Replies}

-- where no record is put, nothing lands
pub kept_lands : (seen : Lookup) (row : List Bound) (used room : ℕ) (area : Holds) (a : RowAction) → stores a ≡ false → Lands seen row used room area a
kept_lands seen row used room area RowAction.Leave e = tt
kept_lands seen row used room area RowAction.Clear e = tt
kept_lands seen row used room area (RowAction.Store at h) e = absurd (true≢false e)
kept_lands seen row used room area (RowAction.Rebind freed at h) e = absurd (true≢false e)

-- the state but for the row, with these counters
abbrev At : Replica → List Place → List (ℕ × ℕ) → Core
At c ps pending = record { counters = counters_of c; places = ps; pending = pending }

module _ (c : Replica) (s : Settings) where
  -- a refusal or a Nack that leaves all as it was
  pub as_left : (m : state.Settings → Core → CoreResult) {r : Outcome} {d : Replica} {x : Answer} → r ≡ leaving d x → ((b : List ℕ) → Exact b x)
      → ((room : ℕ) (b : List ℕ) (ps : List Place) (pending : List (ℕ × ℕ)) → record { core = At d ps pending; action = leave; answer = answer_of b x } ≡ m (settings_of s room) (At c ps pending))
      → Replies c s m r
  as_left m {d = d} {x = x} e is-exact is = subst (Replies c s m) (sym e) (record { is = λ version room holds b ps pending. is room.bytes b ps pending; stays = refl; exact = is-exact })

  -- every record is freed
  as_cleared : (m : state.Settings → Core → CoreResult) {r : Outcome} {d : Replica} {x : Answer} → r ≡ clearing d x → ((b : List ℕ) → Exact b x)
      → ((room : ℕ) (b : List ℕ) (ps : List Place) (pending : List (ℕ × ℕ)) → record { core = At d ps []; action = clear; answer = answer_of b x } ≡ m (settings_of s room) (At c ps pending))
      → Replies c s m r
  as_cleared m {d = d} {x = x} e is-exact is = subst (Replies c s m) (sym e) (record { is = λ version room holds b ps pending. is room.bytes b ps pending; stays = refl; exact = is-exact })

  -- ---- Hello

  module _ (v e : ℕ) (kinds : List ℕ) where
    abbrev Hello : state.Settings → Core → CoreResult
    Hello L k = core_hello L k v e kinds

    abbrev Lower : state.Settings → Core → Bool → CoreResult
    Lower L k t = cond t (core_says k leave (welcome k.counters.epoch (max L.incarnation 1))) (core_says (counting (core_unbound k) (connected v e k.counters)) clear (welcome e (max L.incarnation 1)))

    abbrev Tests : state.Settings → Core → Bool → Bool → CoreResult
    Tests L k t u = cond (not t) (core_refuse k leave 11) (cond (not u) (core_refuse k leave 12) (Lower L k (ltb e k.counters.epoch)))

    pub other_version : {r : Outcome} → is_version v ≡ false → r ≡ leaving c (is_refused 11) → Replies c s Hello r
    unfolding core_hello
    other_version off e = as_left Hello e (λ b. exact_refused b 11) (λ room b ps pending. sym (ap (λ (t : Bool). Tests (settings_of s room) (At c ps pending) t (is_empty kinds)) off))

    -- of a version that there is
    module _ (one : is_version v ≡ true) where
      first : (L : state.Settings) (k : Core) → Hello L k ≡ Tests L k true (is_empty kinds)
      unfolding core_hello
      first L k = ap (λ (t : Bool). Tests L k t (is_empty kinds)) one

      pub some_kinds : {r : Outcome} → is_empty kinds ≡ false → r ≡ leaving c (is_refused 12) → Replies c s Hello r
      some_kinds off e =
          as_left Hello e (λ b. exact_refused b 12) (λ room b ps pending. sym (first (settings_of s room) (At c ps pending) ∙ ap (λ (t : Bool). Tests (settings_of s room) (At c ps pending) true t) off))

      -- and without kinds
      module _ (none : is_empty kinds ≡ true) where
        second : (L : state.Settings) (k : Core) → Hello L k ≡ Lower L k (ltb e k.counters.epoch)
        second L k = first L k ∙ ap (λ (t : Bool). Tests L k true t) none

        pub lower_told : {r : Outcome} {a : Answer} {i : Incarnation} → e < c.epoch.0 → i.0 ≡ max s.incarnation.0 1 → r ≡ leaving c a → a ≡ is_welcome c.epoch i → Replies c s Hello r
        lower_told {i = i} less own e₁ e₂ =
            as_left Hello (e₁ ∙ ap (leaving c) e₂) (λ b. exact_welcome b c.epoch i) (λ room b ps pending.
            ap (λ (x : ℕ). record { core = At c ps pending; action = leave; answer = reply (welcome c.epoch.0 x) }) own
            ∙ sym (second (settings_of s room) (At c ps pending) ∙ ap (Lower (settings_of s room) (At c ps pending)) (lt-ltb e c.epoch.0 less)))

        pub taken : {r : Outcome} {a : Answer} {i : Incarnation} {d : Replica} {n : Epoch} {x : ℕ} → version_of x ≡ v → n.0 ≡ e → c.epoch.0 ≤ e → i.0 ≡ max s.incarnation.0 1 → d ≡ connected_to c n x → r ≡ clearing d a → a ≡ is_welcome n i
            → Replies c s Hello r
        taken {i = i} {n = n} {x = b₂} spoken is high own e₀ e₁ e₂ =
            as_cleared Hello (e₁ ∙ (λ j. clearing (e₀ j) (e₂ j))) (λ b. exact_welcome b n i) (λ room b ps pending.
            ap (λ (x : ℕ). record { core = At (connected_to c n b₂) ps []; action = clear; answer = reply (welcome n.0 x) }) own
            ∙ ap (λ (x : ℕ). record { core = At (connected_to c (record { 0 = x }) b₂) ps []; action = clear; answer = reply (welcome x (max s.incarnation.0 1)) }) is
            ∙ ap (λ (x : ℕ). record { core = record { counters = connected x e (counters_of c); places = ps; pending = [] }; action = clear; answer = reply (welcome e (max s.incarnation.0 1)) }) spoken
            ∙ sym (second (settings_of s room) (At c ps pending) ∙ ap (Lower (settings_of s room) (At c ps pending)) (le-ltb e c.epoch.0 high)))

  -- ---- Checked

  module _ (h e i : ℕ) where
    abbrev Checked : state.Settings → Core → CoreResult
    Checked L k = core_checked L k h e i

    abbrev Asks : state.Settings → Core → Bool → Bool → CoreResult
    Asks L k t u = cond t (core_says k leave (nack h stale_epoch)) (cond (not u) (core_says k leave (nack h restarted)) (core_says (counting k (checked_at e k.counters)) leave (ack h 0)))

    pub stale : {r : Outcome} {a : Answer} → e < c.epoch.0 → r ≡ leaving c a → a ≡ is_nack h 1 → Replies c s Checked r
    unfolding core_checked
    stale less e₁ e₂ =
        as_left Checked (e₁ ∙ ap (leaving c) e₂) (λ b. exact_nack b h stale_epoch) (λ room b ps pending. sym (ap (λ (t : Bool). Asks (settings_of s room) (At c ps pending) t (eqb i (max s.incarnation.0 1))) (lt-ltb e c.epoch.0 less)))

    module _ (high : c.epoch.0 ≤ e) {own : ℕ} (is : own ≡ max s.incarnation.0 1) where
      not_stale : (room : ℕ) (ps : List Place) (pending : List (ℕ × ℕ)) → Checked (settings_of s room) (At c ps pending) ≡ Asks (settings_of s room) (At c ps pending) false (eqb i own)
      unfolding core_checked
      not_stale room ps pending =
          ap (λ (t : Bool). Asks (settings_of s room) (At c ps pending) t (eqb i (max s.incarnation.0 1))) (le-ltb e c.epoch.0 high)
          ∙ ap (λ (x : ℕ). Asks (settings_of s room) (At c ps pending) false (eqb i x)) (sym is)

      pub other_run : {r : Outcome} {a : Answer} → (i ≡ own → ⊥) → r ≡ leaving c a → a ≡ is_nack h 4 → Replies c s Checked r
      other_run off e₁ e₂ = as_left Checked (e₁ ∙ ap (leaving c) e₂) (λ b. exact_nack b h restarted) (λ room b ps pending. sym (not_stale room ps pending ∙ ap (Asks (settings_of s room) (At c ps pending) false) (ne_eqb i own off)))

      pub said : {r : Outcome} {a : Answer} {d : Replica} {n : Epoch} → n.0 ≡ e → i ≡ own → d ≡ checked_to c n → r ≡ leaving d a → a ≡ is_ack h (record { 0 = 0 }) → Replies c s Checked r
      said {n = n} at same e₀ e₁ e₂ =
          as_left Checked (e₁ ∙ (λ j. leaving (e₀ j) (e₂ j))) (λ b. exact_ack b h (record { 0 = 0 })) (λ room b ps pending.
          ap (λ (x : ℕ). record { core = At (checked_to c (record { 0 = x })) ps pending; action = leave; answer = reply (ack h 0) }) at
          ∙ sym (not_stale room ps pending ∙ ap (Asks (settings_of s room) (At c ps pending) false) (eq-eqb i own same)))
