-- Each way of a Batch is the definition's. Assumes nothing.
use Prim.Native.Nat.{ℕ, ◌<◌}
use mathlib.Core.Path.{◌≡◌, refl, sym, ap, subst, ◌∙◌}
use mathlib.Core.Bool.{Bool, true, false, cond, not, ◌&&◌, ◌||◌, true≢false}
use mathlib.Core.List.{List}
use mathlib.Core.Option.{Option, none, some}
use lib.ListN.{length, get_or}
use lib.Dec.{eqb, ltb}
use borrow.Author.Tests.{eqb-true}
use Rattle.std.specs.Prelude.{IfSome, Some, None}
use Rattle.std.specs.Prelude as prelude
use Rattle.base_laws.proofs.Lists.{both}
use Rattle.base_refusals.specs.declared.Refusal.{Refusal}
use Rattle.base_refusals.specs.Numbers.{number_of}
use Rattle.model_frame.specs.Frame.{Change, AppRecord, commit, whole, last_whole, batch, nack, stale_epoch, diverged}
use Rattle.model_frame.specs.Frame as the_frame
use Rattle.model_frame.specs.Parse.{is_empty}
use Rattle.model_frame.specs.Sizes.{sizes}
use Rattle.frame_fields.specs.declared.CommitNumber.{CommitNumber}
use Rattle.frame_fields.specs.declared.Epoch.{Epoch}
use Rattle.standby_segments.specs.Segments.{Holds, with_run}
use Rattle.standby_row.specs.declared.Bound.{Bound as BoundRecord}
use Rattle.standby_row.specs.declared.lookup.Lookup.{Lookup}
use Rattle.standby_row.specs.Row.{own_record}
use Rattle.store_areas.specs.Areas.{Rules}
use Rattle.store_areas.proofs.Lifting.{places_length}
use Rattle.standby_commit.specs.Settling.{StoreChange, stays, batch_change, StoreAfter}
use Rattle.standby_commit.proofs.Laws.{none_changed}
use Rattle.model_text.specs.Version.{latest}
use Rattle.model_standby.specs.Answer.{refused, accepted, is_reply}
use Rattle.model_standby.specs.Answer as the-answer
use Rattle.model_standby.specs.State.{Bound, at_epoch}
use Rattle.model_standby.specs.State as state
use Rattle.model_standby.specs.Hold.{HoldWrite, held_bytes, writes_part, writes_frame}
use Rattle.model_standby.specs.Core.{leave, store, Core, CoreResult, core_says, core_refuse, counting, core_handle, core_batch}
use Rattle.standby_part.specs.declared.PartResult.{PartResult}
use Rattle.standby_part.specs.State.{bound_of, core_at}
use Rattle.standby_part.specs.Part.{part_refusal, is_accepted, stored_in, told_by, action_by, result_of, StoredIs}
use Rattle.standby_batch_handle.specs.Handling.{follows_of, is_whole, found_of, bound_in, Sound, hold_area_after, handle_change, StoredFor, HandleIs}
use Rattle.standby_step.specs.Steps.{is_found}
use Rattle.standby_counters.specs.declared.Replica.{Replica}
use Rattle.standby_state.specs.declared.Settings.{Settings}
use Rattle.standby_state.specs.declared.Answer.{Answer}
use Rattle.standby_state.specs.declared.Outcome.{Outcome}
use Rattle.standby_state.specs.Answers.{answer_of, is_refused, is_nack, is_ack}
use Rattle.standby_state.specs.Exact.{Exact}
use Rattle.standby_state.specs.Outcomes.{counters_of, settings_of, leaving, storing, stores}
use Rattle.standby_state.proofs.Exact.{exact_refused, exact_nack, exact_ack}
use Rattle.standby_batch.specs.Batches.{epoch_to, found_for, bound_for, answer_by, settled_of, RecordRules, hold_area_with, found_at, put_in, Puts, BatchIs}
use Rattle.standby_batch.proofs.Refusals.{some_number}
use Rattle.standby_batch.proofs.Passing.{as_many, is_store, store_none, accept_none, Passes, whole_passes, last_passes}

-- ---- what the answer of a handle stands for

module _ (h : ℕ) (n : CommitNumber) (b : List ℕ) where
  refused_is : (e : Refusal) → answer_of b (is_refused (number_of e)) ≡ refused (number_of e)
  refused_is e = ap (λ (t : Bool). cond t the-answer.done (refused (number_of e))) (some_number e)

  answer_is : (d : PartResult) → answer_of b (answer_by d h n) ≡ told_by h n.0 d
  answer_is (PartResult.Refused e) = refused_is e
  answer_is (PartResult.RefusedHolding e x) = refused_is e
  answer_is (PartResult.Diverged x) = refl
  answer_is (PartResult.Accepted x) = refl

  answer_exact : (d : PartResult) → Exact b (answer_by d h n)
  answer_exact (PartResult.Refused e) = exact_refused b (number_of e)
  answer_exact (PartResult.RefusedHolding e x) = exact_refused b (number_of e)
  answer_exact (PartResult.Diverged x) = exact_nack b h diverged
  answer_exact (PartResult.Accepted x) = exact_ack b h n

module _ (h n : ℕ) where
  told_accepted : (d : PartResult) → accepted (told_by h n d) ≡ is_accepted d
  told_accepted (PartResult.Refused e) = refl
  told_accepted (PartResult.RefusedHolding e x) = refl
  told_accepted (PartResult.Diverged x) = refl
  told_accepted (PartResult.Accepted x) = refl

  told_reply : (d : PartResult) → is_reply (told_by h n d) ≡ eqb (part_refusal d) 0
  told_reply (PartResult.Refused e) = sym (some_number e)
  told_reply (PartResult.RefusedHolding e x) = sym (some_number e)
  told_reply (PartResult.Diverged x) = refl
  told_reply (PartResult.Accepted x) = refl

  told_stores : (version : ℕ) (area : Holds) (c : Replica) (seen : Lookup) (m : CommitNumber) (d : PartResult) → is_store (action_by version h area d) ≡ stores (settled_of c seen d h m).action
  told_stores version area c seen m (PartResult.Refused e) = refl
  told_stores version area c seen m (PartResult.RefusedHolding e x) = refl
  told_stores version area c seen m (PartResult.Diverged x) = refl
  told_stores version area c seen m (PartResult.Accepted x) = refl

-- ---- the ways that leave all as it was

module _ (s : Settings) (c : Replica) (seen : Lookup) (h : ℕ) (e : Epoch) (n : CommitNumber) (part : the_frame.Part) (cs : List Change) (apps : List AppRecord) (w b : List ℕ) (area : Holds) (rules : Rules s.shape w b) where
  abbrev L : state.Settings
  L = settings_of s (length area.bytes)

  abbrev K : Core
  K = core_at (counters_of c) s.shape w b

  abbrev F : Option Bound
  F = found_at seen h area

  abbrev Goes : Bool → Bool → CoreResult
  Goes t u = cond (not t) (core_refuse K leave 13) (cond u (core_says K leave (nack h stale_epoch)) (core_handle L (counting K (at_epoch e.0 K.counters)) h F n.0 part cs))

  abbrev Writes : Bool → Bool → Option HoldWrite
  Writes t u = cond (not t || u) none (writes_part L h F n.0 part cs)

  abbrev Is : List ℕ → List ℕ → Holds → Outcome → Type 0
  Is w' b' area' r = BatchIs s c seen h e.0 n.0 part cs apps w w' b b' area area' r

  tests : core_batch L K F h e.0 n.0 part cs apps ≡ Goes (is_empty apps) (ltb e.0 c.epoch.0)
  unfolding core_batch
  tests = refl

  left : (t u : Bool) → is_empty apps ≡ t → ltb e.0 c.epoch.0 ≡ u → {r : Outcome} {a : Answer} (x : Answer) → r ≡ leaving c a → a ≡ x → Exact b x → accepted (answer_of b x) ≡ false
      → record { core = K; action = leave; answer = answer_of b x } ≡ Goes t u → Writes t u ≡ none → Is w b area r
  left t u p q x e₁ e₂ is-exact off is none_written =
      subst (Is w b area) (sym (e₁ ∙ ap (leaving c) e₂))
      (record {
        is = is ∙ sym (tests ∙ (λ j. Goes (p j) (q j)));
        puts = tt;
        stored = λ y. absurd (true≢false (sym y));
        rules = rules;
        used = refl;
        store_after = none_changed s.shape h (own_record seen).place part w b off;
        area_is = ap (λ (o : Option HoldWrite). hold_area_with (is_whole part) o area) (sym ((λ j. Writes (p j) (q j)) ∙ none_written));
        exact = is-exact;
      })

  pub with_records : {r : Outcome} → is_empty apps ≡ false → r ≡ leaving c (is_refused 13) → Is w b area r
  with_records p e₁ = left false (ltb e.0 c.epoch.0) p refl (is_refused 13) e₁ refl (exact_refused b 13) refl refl refl

  pub stale : {r : Outcome} {a : Answer} → is_empty apps ≡ true → ltb e.0 c.epoch.0 ≡ true → r ≡ leaving c a → a ≡ is_nack h 1 → Is w b area r
  stale p less e₁ e₂ = left true true p less (is_nack h 1) e₁ e₂ (exact_nack b h stale_epoch) refl refl refl

  -- ---- past them

  -- the record found, where it is the handle's
  abbrev Own : Bool → prelude.Option BoundRecord
  Own t = cond t (Some (own_record seen)) None

  bound_is : (t : Bool) → bound_in latest (Own t) area ≡ found_of latest t (own_record seen) area
  bound_is true = refl
  bound_is false = refl

  module _ (p : is_empty apps ≡ true) (high : ltb e.0 c.epoch.0 ≡ false) {found : Bool} (found_is : found ≡ found_for seen h) {w' b' : List ℕ} {area' : Holds} {run : List ℕ} {d : PartResult}
      (g : HandleIs latest s.shape h (Own found) n.0 part cs w w' b b' area area' d)
      (written : area' ≡ hold_area_after latest (Own found) n.0 part run area (part_refusal d)) (bytes : run ≡ held_bytes cs)
      (kept : found ≡ true → RecordRules seen w area) where
    abbrev B : Bound
    B = bound_of latest (own_record seen) area

    abbrev K' : Core
    K' = core_at (counters_of (epoch_to c e)) s.shape w b

    went : core_batch L K F h e.0 n.0 part cs apps ≡ core_handle L K' h (found_of latest found (own_record seen) area) n.0 part cs
    went = tests ∙ (λ j. Goes (p j) (high j)) ∙ ap (λ (t : Bool). core_handle L K' h (found_of latest t (own_record seen) area) n.0 part cs) (sym found_is)

    handled : result_of latest h n.0 area' d (core_at (counters_of (epoch_to c e)) s.shape w' b') ≡ core_handle L K' h (found_of latest found (own_record seen) area) n.0 part cs
    handled = g.is (counters_of (epoch_to c e)) s.incarnation.0 s.max_lag ∙ ap (λ (o : Option Bound). core_handle L K' h o n.0 part cs) (bound_is found)

    -- what the code makes of a result
    abbrev X : PartResult → Outcome
    X q = settled_of (epoch_to c e) seen q h n

    reads : (q : PartResult) → ◌≡◌ {A = CoreResult}
        (record {
          core = core_at (counters_of (X q).replica) s.shape w' b';
          action = put_in area' (X q).action;
          answer = answer_of b' (X q).answer;
        })
        (result_of latest h n.0 area' q (core_at (counters_of (epoch_to c e)) s.shape w' b'))
    reads (PartResult.Refused e₁) = λ j. record { core = core_at (counters_of (epoch_to c e)) s.shape w' b'; action = leave; answer = refused_is h n b' e₁ j }
    reads (PartResult.RefusedHolding e₁ x) = λ j. record {
      core = core_at (counters_of (epoch_to c e)) s.shape w' b';
      action = store h (bound_of latest x area');
      answer = refused_is h n b' e₁ j;
    }
    reads (PartResult.Diverged x) = refl
    reads (PartResult.Accepted x) = refl

    says_so : (q : PartResult) → (X q).answer ≡ answer_by q h n
    says_so (PartResult.Refused e₁) = refl
    says_so (PartResult.RefusedHolding e₁ x) = refl
    says_so (PartResult.Diverged x) = refl
    says_so (PartResult.Accepted x) = refl

    used_same : get_or w' 0 0 ≡ get_or w 0 0
    used_same =
        sym (places_length s.shape w' b') ∙ ap (λ (r : CoreResult). length r.core.places) handled
        ∙ as_many L K' h (found_of latest found (own_record seen) area) n.0 part cs ∙ places_length s.shape w b

    -- for no other handle is a record stored or a Batch accepted
    none_stored : found ≡ false → stores (X d).action ≡ false
    none_stored f =
        sym (told_stores h n.0 latest area' (epoch_to c e) seen n d) ∙ ap (λ (r : CoreResult). is_store r.action) handled
        ∙ ap (λ (u : Bool). is_store (core_handle L K' h (found_of latest u (own_record seen) area) n.0 part cs).action) f ∙ store_none L K' h n.0 part cs

    none_accepted : found ≡ false → is_accepted d ≡ false
    none_accepted f =
        sym (told_accepted h n.0 d) ∙ ap (λ (r : CoreResult). accepted r.answer) handled
        ∙ ap (λ (u : Bool). accepted (core_handle L K' h (found_of latest u (own_record seen) area) n.0 part cs).answer) f ∙ accept_none L K' h n.0 part cs

    stored_found : stores (X d).action ≡ true → found ≡ true
    stored_found y = go found refl
      where
        go : (t : Bool) → found ≡ t → t ≡ true
        go true f = refl
        go false f = absurd (true≢false (sym y ∙ none_stored f))

    changed_for : StoreAfter s.shape (batch_change h (own_record seen).place part (is_accepted d)) w w' b b'
    changed_for = go found refl g.store_after
      where
        go : (t : Bool) → found ≡ t → StoreAfter s.shape (handle_change h (Own t) part (is_accepted d)) w w' b b' → StoreAfter s.shape (batch_change h (own_record seen).place part (is_accepted d)) w w' b b'
        go true f k = k
        go false f k = subst (λ (x : StoreChange). StoreAfter s.shape x w w' b b') (sym (ap (batch_change h (own_record seen).place part) (none_accepted f) ∙ no_change part)) k
          where
            no_change : (q : the_frame.Part) → batch_change h (own_record seen).place q false ≡ stays
            no_change commit = refl
            no_change whole = refl
            no_change last_whole = refl

    put_fits : (a : Answer) (x : BoundRecord) → found ≡ true → StoredIs latest (own_record seen) area area' x → Puts seen (get_or w' 0 0) (length area.bytes) area' (storing (epoch_to c e) seen a h x).action
    put_fits a x f i =
        let k : RecordRules seen w area = kept f in
        record {
          at_is = refl;
          slot_is = (λ j. record { used = 1; handle = h; place = x.place; commit_no = record { 0 = x.commit_no.0 }; held_len = i.held j; held_bytes = x.held_bytes });
          slot_place = subst (λ (m : ℕ). m < get_or w' 0 0) (sym i.place) (subst (λ (m : ℕ). (own_record seen).place < m) (sym used_same) k.place_used);
          slot_len = i.len k.held_within;
        }

    puts_in : (q : PartResult) → (stores (X q).action ≡ true → found ≡ true) → IfSome (stored_in q) (StoredIs latest (own_record seen) area area') → Puts seen (get_or w' 0 0) (length area.bytes) area' (X q).action
    puts_in (PartResult.Refused e₁) f i = tt
    puts_in (PartResult.RefusedHolding e₁ x) f i = put_fits (is_refused (number_of e₁)) x (f refl) i
    puts_in (PartResult.Diverged x) f i = put_fits (is_nack h 2) x (f refl) i
    puts_in (PartResult.Accepted x) f i = put_fits (is_ack h n) x (f refl) i

    puts_none : (q : PartResult) → stores (X q).action ≡ false → Puts seen (get_or w' 0 0) (length area.bytes) area' (X q).action
    puts_none (PartResult.Refused e₁) e = tt
    puts_none (PartResult.RefusedHolding e₁ x) e = absurd (true≢false e)
    puts_none (PartResult.Diverged x) e = absurd (true≢false e)
    puts_none (PartResult.Accepted x) e = absurd (true≢false e)

    put_so : Puts seen (get_or w' 0 0) (length area.bytes) area' (X d).action
    put_so = go found refl g.slot
      where
        go : (t : Bool) → found ≡ t → StoredFor latest (Own t) area area' (stored_in d) → Puts seen (get_or w' 0 0) (length area.bytes) area' (X d).action
        go true f i = puts_in d stored_found i
        go false f i = puts_none d (none_stored f)

    -- ---- the hold area

    abbrev New : Bool → Bool → Holds
    New closes t = cond t (with_run closes (sizes B.held) run area) area

    abbrev Put : HoldWrite
    Put = record { handle = h; offset = sizes B.held; bytes = held_bytes cs }

    put_is : (closes t : Bool) → New closes t ≡ hold_area_with closes (cond t (some Put) none) area
    put_is closes true = ap (λ (r : List ℕ). with_run closes (sizes B.held) r area) bytes
    put_is closes false = refl

    answered : found ≡ true → is_reply (core_handle L K' h (some B) n.0 part cs).answer ≡ eqb (part_refusal d) 0
    answered f =
        ap (λ (u : Bool). is_reply (core_handle L K' h (found_of latest u (own_record seen) area) n.0 part cs).answer) (sym f)
        ∙ ap (λ (r : CoreResult). is_reply r.answer) (sym handled) ∙ told_reply h n.0 d

    -- of a Whole or LastWhole that is found
    held_area : (closes : Bool) → found ≡ true → (follows_of (own_record seen) n.0 ≡ true → eqb (part_refusal d) 0 ≡ Passes L K' h B n.0 cs)
        → cond (follows_of (own_record seen) n.0 && true) (New closes (eqb (part_refusal d) 0)) area ≡ hold_area_with closes (cond (follows_of (own_record seen) n.0 && Passes L K' h B n.0 cs) (some Put) none) area
    held_area closes f passes = go (follows_of (own_record seen) n.0) refl
      where
        go : (t : Bool) → follows_of (own_record seen) n.0 ≡ t → cond (t && true) (New closes (eqb (part_refusal d) 0)) area ≡ hold_area_with closes (cond (t && Passes L K' h B n.0 cs) (some Put) none) area
        go true q = ap (New closes) (passes q) ∙ put_is closes (Passes L K' h B n.0 cs)
        go false q = refl

    off_held : (t : Bool) → cond (t && false) (New false (eqb (part_refusal d) 0)) area ≡ area
    off_held true = refl
    off_held false = refl

    area_found : (q : the_frame.Part) → part ≡ q → found ≡ true → hold_area_after latest (Some (own_record seen)) n.0 q run area (part_refusal d) ≡ hold_area_with (is_whole q) (writes_part L h (some B) n.0 q cs) area
    area_found commit q f = off_held (follows_of (own_record seen) n.0)
    area_found whole q f =
        held_area true f (λ t. sym (answered f) ∙ ap (λ (x : the_frame.Part). is_reply (core_handle L K' h (some B) n.0 x cs).answer) q ∙ whole_passes L K' h B n.0 cs t)
    area_found last_whole q f =
        held_area false f (λ t. sym (answered f) ∙ ap (λ (x : the_frame.Part). is_reply (core_handle L K' h (some B) n.0 x cs).answer) q ∙ last_passes L K' h B n.0 cs t)

    none_found : (q : the_frame.Part) → area ≡ hold_area_with (is_whole q) (writes_part L h none n.0 q cs) area
    none_found commit = refl
    none_found whole = refl
    none_found last_whole = refl

    area_part : area' ≡ hold_area_with (is_whole part) (writes_part L h (found_of latest found (own_record seen) area) n.0 part cs) area
    area_part = written ∙ go found refl
      where
        go : (t : Bool) → found ≡ t → hold_area_after latest (Own t) n.0 part run area (part_refusal d) ≡ hold_area_with (is_whole part) (writes_part L h (found_of latest t (own_record seen) area) n.0 part cs) area
        go true f = area_found part refl f
        go false f = none_found part

    area_whole : area' ≡ hold_area_with (is_whole part) (writes_frame L (counters_of c) F (batch h e.0 n.0 part cs apps)) area
    area_whole =
        area_part ∙ ap (λ (t : Bool). hold_area_with (is_whole part) (writes_part L h (found_of latest t (own_record seen) area) n.0 part cs) area) found_is
        ∙ ap (λ (o : Option HoldWrite). hold_area_with (is_whole part) o area) (sym (λ j. Writes (p j) (high j)))

    handled_is : {r : Outcome} {c' : Replica} → c' ≡ epoch_to c e → r ≡ settled_of c' seen d h n → Is w' b' area' r
    handled_is e₁ e₂ =
        subst (Is w' b' area') (sym (e₂ ∙ ap (λ (x : Replica). settled_of x seen d h n) e₁))
        (record {
          is = reads d ∙ handled ∙ sym went;
          puts = put_so;
          stored = λ y. sym found_is ∙ stored_found y;
          rules = g.rules;
          used = used_same;
          store_after =
              subst (λ (t : Bool). StoreAfter s.shape (batch_change h (own_record seen).place part t) w w' b b')
              (sym (ap (λ (a : Answer). accepted (answer_of b' a)) (says_so d) ∙ ap accepted (answer_is h n b' d) ∙ told_accepted h n.0 d)) changed_for;
          area_is = area_whole;
          exact = subst (Exact b') (sym (says_so d)) (answer_exact h n b' d);
        })

    -- of the store as it was handed back
    pub handled_given : {r : Outcome} {c' : Replica} {w₂ b₂ : List ℕ} → c' ≡ epoch_to c e → r ≡ settled_of c' seen d h n → w₂ ≡ w' → b₂ ≡ b' → BatchIs s c seen h e.0 n.0 part cs apps w w₂ b b₂ area area' r
    handled_given {r} {c'} {w₂} {b₂} e₁ e₂ words back =
        subst (λ (x : List ℕ). BatchIs s c seen h e.0 n.0 part cs apps w x b b₂ area area' r) (sym words)
        (subst (λ (x : List ℕ). BatchIs s c seen h e.0 n.0 part cs apps w w' b x area area' r) (sym back) (handled_is e₁ e₂))

-- ---- what the handle asks

module _ (seen : Lookup) (h : ℕ) (w : List ℕ) (area : Holds) (kept : is_found seen ≡ true → RecordRules seen w area) where
  pub kept_of : found_for seen h ≡ true → RecordRules seen w area
  kept_of t = kept (both (is_found seen) (eqb (own_record seen).handle h) t).0

  pub sound_of : {o : prelude.Option BoundRecord} → o ≡ bound_for seen h → IfSome o (λ x. Sound h x w area)
  sound_of e = subst (λ (o : prelude.Option BoundRecord). IfSome o (λ x. Sound h x w area)) (sym e) (go (found_for seen h) refl)
    where
      go : (t : Bool) → found_for seen h ≡ t → IfSome (cond t (Some (own_record seen)) None) (λ x. Sound h x w area)
      go true f = record { own = eqb-true (own_record seen).handle h (both (is_found seen) (eqb (own_record seen).handle h) f).1; place_used = (kept_of f).place_used; held_within = (kept_of f).held_within }
      go false f = tt
