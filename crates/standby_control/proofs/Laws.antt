-- Each way of a frame that is no Batch is the definition's. Assumes nothing.
use Rattle.model_text.specs.Version.{latest}
use Prim.Native.Nat.{ℕ, zero, suc, ◌≤◌}
use mathlib.Core.Path.{◌≡◌, refl, sym, ap, subst, ◌∙◌}
use mathlib.Core.Bool.{Bool, true, false, cond, not}
use mathlib.Core.List.{List, [], ◌∷◌}
use mathlib.Core.Option.{Option, none}
use native.Mathlib.Omega.{arith}
use native.Mathlib.Nat.{le_of_eq}
use lib.ListN.{length, get_or, set}
use lib.Seq.{set-get_or}
use lib.Dec.{ltb}
use Rattle.model_frame.specs.Frame.{Key, hello, welcome, bind, batch, ack, nack, bound, checked}
use Rattle.model_frame.specs.Frame as the_frame
use Rattle.model_frame.specs.Parse.{is_empty}
use Rattle.frame.specs.declared.Frame.{Frame}
use Rattle.frame.specs.declared.SessionId.{SessionId}
use Rattle.frame_fields.specs.declared.Epoch.{Epoch}
use Rattle.frame_fields.specs.declared.Incarnation.{Incarnation}
use Rattle.frame_op.specs.declared.Run.{Run}
use Rattle.frame_reader.specs.declared.Span.{Span}
use Rattle.frame.specs.Answers.{frame_of}
use Rattle.standby_row.specs.declared.Bound.{Bound as BoundRecord}
use Rattle.standby_row.specs.declared.lookup.Lookup.{Lookup}
use Rattle.standby_row.specs.Row.{own_record}
use Rattle.store_areas.specs.declared.Shape.{Shape}
use Rattle.store_areas.specs.Areas.{Rules, places_of}
use Rattle.store_areas.proofs.Lifting.{heads_places}
use Rattle.store_areas.proofs.Lists.{word_kept}
use Rattle.standby_pending.specs.Pending.{count_of, pending_of}
use Rattle.standby_pending.proofs.Laws.{cleared}
use Rattle.standby_pending_run.specs.Commits.{ran_words, RanIf}
use Rattle.standby_pending_run.proofs.Head.{clear_only, clear_rules}
use Rattle.standby_pending_run.proofs.Due.{many_pending}
use Rattle.standby_commit.specs.Settling.{StoreChange, stays, bind_change, StoreAfter}
use Rattle.model_standby.specs.Answer.{intact, handle_in, accepted}
use Rattle.model_standby.specs.Store.{Stored, Place, same_key, place_of, is_stored, on_place, mark_durable, mark_all}
use Rattle.model_standby.proofs.Places.{length_on}
use Rattle.model_standby.specs.State.{Bound}
use Rattle.model_standby.specs.State as state
use Rattle.model_standby.specs.Core.{Core, core_intact, core_run}
use Rattle.standby_part.specs.State.{core_at}
use Rattle.standby_counters.specs.declared.Replica.{Replica}
use Rattle.standby_state.specs.declared.Settings.{Settings}
use Rattle.standby_state.specs.declared.Outcome.{Outcome}
use Rattle.standby_state.specs.Answers.{answer_of, is_refused}
use Rattle.standby_state.specs.Outcomes.{counters_of, settings_of, action_of, clears, leaving}
use Rattle.standby_state.proofs.Exact.{exact_refused}
use Rattle.standby_hello.specs.Greeting.{Replies}
use Rattle.standby_hello.proofs.Laws.{kept_lands, as_left}
use Rattle.standby_bind.specs.Binding.{BindIs}
use Rattle.standby_step.specs.Steps.{rooms_in, changes_by}
use Rattle.standby_control.specs.Others.{Plain, Fit, cleared_if, OtherIs, OtherIn}

-- ---- frames

-- neither Bind nor Batch: nothing is asked of the row
plain_same : (L : state.Settings) (k : Core) (o : Option Bound) (room : ℕ → Bool) (f : the_frame.Frame) → Plain f → core_intact L k none (λ p. false) f ≡ core_intact L k o room f
plain_same L k o room (hello v e node kinds) p = refl
plain_same L k o room (welcome e i) p = refl
plain_same L k o room (bind h e lag j) p = absurd p
plain_same L k o room (batch h e n part cs apps) p = absurd p
plain_same L k o room (ack h n) p = refl
plain_same L k o room (nack h r) p = refl
plain_same L k o room (bound h m) p = refl
plain_same L k o room (checked h e i) p = refl

-- the last way of `reply`: 19
pub nineteen : (c : Replica) (s : Settings) (b : List ℕ) (f : Frame) → ((v : ℕ) (e : Epoch) (node : Span) (ks : Run) → f ≡ Frame.Hello v e node ks → ⊥) → ((h : ℕ) (e : Epoch) (i : Incarnation) → f ≡ Frame.Checked h e i → ⊥) → Plain (frame_of latest b f)
    → {r : Outcome} → r ≡ leaving c (is_refused 19) → Replies c s (λ L k. core_intact L k none (λ p. false) (frame_of latest b f)) r
nineteen c s b (Frame.Hello v e node ks) h q p e₁ = absurd (h v e node ks refl)
nineteen c s b (Frame.Welcome e i) h q p e₁ = as_left c s (λ L k. core_intact L k none (λ p. false) (welcome e.0 i.0)) e₁ (λ y. exact_refused y 19) (λ room x ps pending. refl)
nineteen c s b (Frame.Bind x e lag k) h q p e₁ = absurd p
nineteen c s b (Frame.Bound x m) h q p e₁ = as_left c s (λ L k. core_intact L k none (λ p. false) (frame_of latest b (Frame.Bound x m))) e₁ (λ y. exact_refused y 19) (λ room y ps pending. refl)
nineteen c s b (Frame.Batch x) h q p e₁ = absurd p
nineteen c s b (Frame.Ack x n) h q p e₁ = as_left c s (λ L k. core_intact L k none (λ p. false) (ack x n.0)) e₁ (λ y. exact_refused y 19) (λ room y ps pending. refl)
nineteen c s b (Frame.Nack x r) h q p e₁ = as_left c s (λ L k. core_intact L k none (λ p. false) (frame_of latest b (Frame.Nack x r))) e₁ (λ y. exact_refused y 19) (λ room y ps pending. refl)
nineteen c s b (Frame.Checked x e i) h q p e₁ = absurd (q x e i refl)

-- the last way of `answer`: no Bind
pub plain_of : (b : List ℕ) (f : Frame) → ((h : ℕ) (e : Epoch) (lag : ℕ) (k : SessionId) → f ≡ Frame.Bind h e lag k → ⊥) → Fit (frame_of latest b f) → Plain (frame_of latest b f)
plain_of b (Frame.Hello v e node ks) h p = tt
plain_of b (Frame.Welcome e i) h p = tt
plain_of b (Frame.Bind x e lag k) h p = absurd (h x e lag k refl)
plain_of b (Frame.Bound x m) h p = tt
plain_of b (Frame.Batch x) h p = p
plain_of b (Frame.Ack x n) h p = tt
plain_of b (Frame.Nack x r) h p = tt
plain_of b (Frame.Checked x e i) h p = tt

-- ---- the pending commits go with the bindings

module _ (s : Shape) (w b : List ℕ) (r : Rules s w b) where
  long : 66 ≤ length w
  long = omega (arith, r.room.words_long)

  cleared_places : (t : Bool) → places_of s (cleared_if t w) b ≡ places_of s w b
  cleared_places true = heads_places s w (set w 1 0) b (clear_only w)
  cleared_places false = refl

  cleared_pending : (t : Bool) → pending_of (cleared_if t w) ≡ cond t [] (pending_of w)
  cleared_pending true = cleared w long
  cleared_pending false = refl

  cleared_rules : (t : Bool) → Rules s (cleared_if t w) b
  cleared_rules true = clear_rules s w b r
  cleared_rules false = r

  cleared_used : (t : Bool) → get_or (cleared_if t w) 0 0 ≡ get_or w 0 0
  cleared_used true = word_kept 1 66 0 w (set w 1 0) (clear_only w) (omega arith)
  cleared_used false = refl

-- where none is pending they stay as they were
cleared_same : (w : List ℕ) (t : Bool) → count_of w ≡ 0 → cleared_if t w ≡ w
cleared_same w true e = ap (set w 1) (sym e) ∙ set-get_or w 1 0
cleared_same w false e = refl

plain_stays : (ps : List Place) (p : ℕ) (f : the_frame.Frame) (taken : Bool) → Plain f → changes_by ps p (intact f) taken ≡ stays
plain_stays ps p (hello v e node kinds) taken q = refl
plain_stays ps p (welcome e i) taken q = refl
plain_stays ps p (bind h e lag j) taken q = absurd q
plain_stays ps p (batch h e n part cs apps) taken q = absurd q
plain_stays ps p (ack h n) taken q = refl
plain_stays ps p (nack h r) taken q = refl
plain_stays ps p (bound h m) taken q = refl
plain_stays ps p (checked h e i) taken q = refl

-- ---- the ways of `answer`

module _ (s : Settings) (c : Replica) (seen : Lookup) (row : List BoundRecord) (w b : List ℕ) (rules : Rules s.shape w b) where
  pub replied : (f : the_frame.Frame) → Plain f → {r : Outcome} {t : Bool} {w' : List ℕ} → Replies c s (λ L k. core_intact L k none (λ p. false) f) r → t ≡ clears r.action → w' ≡ cleared_if t w → OtherIs s c seen row f w w' b b r
  replied f p {r} {t} {w'} g u e = subst (λ (x : List ℕ). OtherIs s c seen row f w x b b r) (sym (e ∙ ap (λ (x : Bool). cleared_if x w) u)) (record {
    is = λ version room holds o.
        (λ j. record { core = record { counters = counters_of r.replica; places = cleared_places s.shape w b rules (clears r.action) j; pending = cleared_pending s.shape w b rules (clears r.action) j }; action = action_of version room holds r; answer = answer_of b r.answer })
        ∙ g.is version room holds b (places_of s.shape w b) (pending_of w)
        ∙ plain_same (settings_of s room.bytes) (core_at (counters_of c) s.shape w b) o (rooms_in seen row (handle_in (intact f))) f p;
    lands = λ room area. kept_lands seen row (get_or (cleared_if (clears r.action) w) 0 0) room area r.action g.stays;
    rules = cleared_rules s.shape w b rules (clears r.action);
    more = le_of_eq (sym (cleared_used s.shape w b rules (clears r.action)));
    store_after = λ e₀.
        subst (λ (x : StoreChange). StoreAfter s.shape x w (cleared_if (clears r.action) w) b b) (sym (plain_stays (places_of s.shape w b) (own_record seen).place f (accepted (answer_of b r.answer)) p))
        (cleared_same w (clears r.action) e₀, refl);
    exact = g.exact b;
  })

  pub bound_to : (h e lag : ℕ) (k : Key) {w' b' : List ℕ} {r : Outcome} → BindIs s c seen row h e lag k w w' b b' r → OtherIs s c seen row (bind h e lag k) w w' b b' r
  bound_to h e lag k g = record {
    is = λ version room holds o. g.is version room holds;
    lands = g.lands;
    rules = g.rules;
    more = g.more;
    store_after = λ _. g.store_after;
    exact = g.exact;
  }

-- ---- pending commits run first

place_on : (k : Key) (m : ℕ) (f : Stored → Stored) (ps : List Place) → place_of k (on_place m f ps) ≡ place_of k ps
place_on k m f [] = refl
place_on k zero f (x ∷ ps) = refl
place_on k (suc m) f (x ∷ ps) = ap (λ (n : ℕ). cond (same_key k x.key) 0 (suc n)) (place_on k m f ps)

place_marked : (k : Key) (cs : List (ℕ × ℕ)) (ps : List Place) → place_of k (mark_all cs ps) ≡ place_of k ps
place_marked k [] ps = refl
place_marked k (c ∷ cs) ps = place_marked k cs (on_place c.1 mark_durable ps) ∙ place_on k c.1 mark_durable ps

length_marked : (cs : List (ℕ × ℕ)) (ps : List Place) → length (mark_all cs ps) ≡ length ps
length_marked [] ps = refl
length_marked (c ∷ cs) ps = length_marked cs (on_place c.1 mark_durable ps) ∙ length_on c.1 mark_durable ps

changes_marked : (k : Key) (cs : List (ℕ × ℕ)) (ps : List Place) (taken : Bool) → bind_change (place_of k (mark_all cs ps)) (is_stored k (mark_all cs ps)) taken ≡ bind_change (place_of k ps) (is_stored k ps) taken
changes_marked k cs ps taken = (λ j. bind_change (place_marked k cs ps j) (ltb (place_marked k cs ps j) (length_marked cs ps j)) taken)

changes_run : (f : the_frame.Frame) (p : ℕ) (t : Bool) (cs : List (ℕ × ℕ)) (ps : List Place) (taken : Bool) → changes_by (cond t (mark_all cs ps) ps) p (intact f) taken ≡ changes_by ps p (intact f) taken
changes_run (hello v e node kinds) p t cs ps taken = refl
changes_run (welcome e i) p t cs ps taken = refl
changes_run (bind h e lag k) p true cs ps taken = changes_marked k cs ps taken
changes_run (bind h e lag k) p false cs ps taken = refl
changes_run (batch h e n part xs apps) p t cs ps taken = refl
changes_run (ack h n) p t cs ps taken = refl
changes_run (nack h r) p t cs ps taken = refl
changes_run (bound h m) p t cs ps taken = refl
changes_run (checked h e i) p t cs ps taken = refl

module _ (s : Settings) (c : Replica) (seen : Lookup) (row : List BoundRecord) (f : the_frame.Frame) (w b : List ℕ) {due : Bool} (due_is : due ≡ not (is_empty (pending_of w))) {w1 : List ℕ} (ran : RanIf due s.shape b w w1) where
  ran_is : core_at (counters_of c) s.shape w1 b ≡ core_run (not (is_empty (pending_of w))) (core_at (counters_of c) s.shape w b)
  ran_is = (λ j. record { counters = counters_of c; places = ran.places j; pending = ran.pending j }) ∙ ap (λ (t : Bool). core_run t (core_at (counters_of c) s.shape w b)) due_is

  words_are : w1 ≡ cond (not (is_empty (pending_of w))) (ran_words s.shape w) w
  words_are = ran.words ∙ ap (λ (t : Bool). cond t (ran_words s.shape w) w) due_is

  changes_are : (taken : Bool) → changes_by (places_of s.shape w1 b) (own_record seen).place (intact f) taken ≡ changes_by (places_of s.shape w b) (own_record seen).place (intact f) taken
  changes_are taken =
      ap (λ (ps : List Place). changes_by ps (own_record seen).place (intact f) taken) ran.places
      ∙ changes_run f (own_record seen).place due (pending_of w) (places_of s.shape w b) taken

  -- no commit is pending then
  none_left : count_of w1 ≡ 0
  none_left =
      let long : 66 ≤ length w1 = omega (arith, ran.rules.room.words_long) in
      sym (many_pending w1 long ran.rules.pending) ∙ ap length (ran.pending ∙ ap (λ (t : Bool). cond t [] (pending_of w)) due_is ∙ none_of (pending_of w))
    where
      none_of : (l : List (ℕ × ℕ)) → cond (not (is_empty l)) [] l ≡ []
      none_of [] = refl
      none_of (x ∷ l) = refl

  pub other_in : {w' b' : List ℕ} {r : Outcome} → OtherIs s c seen row f w1 w' b b' r → OtherIn s c seen row f w w' b b' r
  other_in {w'} {b'} {r} g = record {
    is = λ version room holds o. g.is version room holds o ∙ ap (λ (k : Core). core_intact (settings_of s room.bytes) k o (rooms_in seen row (handle_in (intact f))) f) ran_is;
    lands = g.lands;
    rules = g.rules;
    more = subst (λ (k : ℕ). k ≤ get_or w' 0 0) ran.used g.more;
    leaves = record {
      mid = w';
      store_after =
          subst (λ (x : List ℕ). StoreAfter s.shape (changes_by (places_of s.shape w b) (own_record seen).place (intact f) (accepted (answer_of b' r.answer))) x w' b b') words_are
          (subst (λ (x : StoreChange). StoreAfter s.shape x w1 w' b b') (changes_are (accepted (answer_of b' r.answer))) (g.store_after none_left));
      last = refl;
    };
    exact = g.exact;
  }
