-- ONE HANDLE FOR A SESSION ON THE CODE, proved: the entry points' promises are the model's steps, and the model's theorem does the rest. Assumes nothing.
use Prim.Native.Nat.{ℕ, suc, ◌^◌, ◌≤◌, ◌<◌}
use native.Mathlib.Omega.{arith}
use mathlib.Core.Path.{◌≡◌, refl, sym, ap, subst, ◌∙◌}
use mathlib.Core.Bool.{Bool, true, false, cond, ◌&&◌, ◌||◌, true≢false}
use mathlib.Core.List.{List, [], ◌∷◌}
use mathlib.Core.Option.{none, some}
use lib.Dec.{T, leb, ltb}
use lib.ListN.{length, get_or}
use borrow.Author.Tests.{leb-false}
use Rattle.base_laws.proofs.Lists.{both}
use Rattle.model_frame.specs.Frame.{Key, batch}
use Rattle.model_frame.specs.Parse.{Each}
use Rattle.model_text.specs.Version.{latest}
use Rattle.model_session.specs.Session.{Session, Holdable, top, suits}
use Rattle.model_session.specs.Whole.{whole_batches, hold_length}
use Rattle.store_areas.specs.Areas.{allowed, Rules}
use Rattle.store_areas.proofs.Ruling.{rules_of}
use Rattle.store_areas.proofs.Lifting.{places_length}
use Rattle.model_standby.specs.Answer.{intact, given, accepted}
use Rattle.model_standby.specs.Answer as answer
use Rattle.model_standby.specs.Row.{Used, find}
use Rattle.model_standby.specs.Store.{place_of, session_at, or_new}
use Rattle.model_standby.specs.State.{Bound, Standby, Call, new_bound}
use Rattle.model_standby.specs.State as state
use Rattle.model_standby.specs.Standby.{with_handle, step, run}
use Rattle.model_standby.specs.PlainCopy.{OwnKey, own_key}
use Rattle.model_standby.specs.Demand.{ModelStart}
use Rattle.model_standby.specs.OneHandle.{RowRules, calls_bind, binds_again}
use Rattle.model_standby.specs.OneHandle as model
use Rattle.model_standby.proofs.OneHandle.{one_handle_each, starts_after}
use Rattle.standby_segments.specs.Segments.{Holds, Lengths}
use Rattle.standby_row.specs.declared.Bound.{Bound as BoundRecord}
use Rattle.standby_row.specs.Row.{is_used, broken_of, apart_of}
use Rattle.standby_handles.specs.Rows.{first_area, areas_behind, row_of}
use Rattle.standby_part.specs.State.{bound_of}
use Rattle.standby_state.specs.declared.Settings.{Settings}
use Rattle.standby_state.specs.declared.Answer.{Answer}
use Rattle.standby_state.specs.Outcomes.{settings_of}
use Rattle.standby_step.specs.Calls.{room_all, lengths_all}
use Rattle.standby_step.proofs.Rows.{Whole, whole_of, allowed_apart}
use Rattle.theorem_whole_copy.specs.Demand.{Lent, stands_for, spoken, settings, Allowed, Runs, no_calls, call, Start}
use Rattle.theorem_whole_copy.specs.OneHandle.{Binds, bound_again, Removed, SentToNew, OneHandle}
use Rattle.theorem_whole_copy.proofs.Model.{After, one}
use Rattle.theorem_whole_copy.proofs.Demand3.{demand_3, all_sent}

-- ---- an allowed row keeps the rules of the row

or_l : (a b : Bool) → (a || b) ≡ false → a ≡ false
or_l true b e = absurd (true≢false e)
or_l false b e = refl

module _ (room : Lengths) (used : ℕ) where
  row_there : (row : List BoundRecord) (h : Holds) → Whole used room.bytes row → Each (Used (λ (b : Bound). b.place < used)) (row_of (bound_of latest) room row h)
  row_there [] h n = tt
  row_there (g ∷ row) h n = (go (is_used g) n.0, row_there row (areas_behind room h) n.1)
    where
      go : (u : Bool) → (u && (leb used g.place || ltb room.bytes g.held_len)) ≡ false → Used (λ (b : Bound). b.place < used) (cond u (some (g.handle, bound_of latest g (first_area room h))) none)
      go true e = leb-false used g.place (or_l (leb used g.place) (ltb room.bytes g.held_len) e)
      go false e = tt

row_long : (room : Lengths) (row : List BoundRecord) (h : Holds) → length (row_of (bound_of latest) room row h) ≡ length row
row_long room [] h = refl
row_long room (g ∷ row) h = ap suc (row_long room row (areas_behind room h))

module _ (s : Settings) where
  row_kept : (x : Lent) → Allowed s x → apart_of x.row ≡ true
  row_kept x ok = (both (apart_of x.row) _ (both (allowed s.shape x.words x.bytes) _ ok).1).0

  row_rules : (x : Lent) → Allowed s x → RowRules (settings s x) (stands_for s x)
  row_rules x ok =
      record {
        places_few = omega (arith, places_length s.shape x.words x.bytes, rules.used);
        handles_there =
            subst (λ (n : ℕ). Each (Used (λ (b : Bound). b.place < n)) (stands_for s x).handles) (sym (places_length s.shape x.words x.bytes))
            (row_there (lengths_all x.row x.holds) (get_or x.words 0 0) x.row x.holds (whole_of (get_or x.words 0 0) (room_all x.row x.holds.bytes) x.row (both (apart_of x.row) _ two.1).1));
        row_apart = allowed_apart s x.counters x.row x.words x.bytes x.holds ok;
      }
    where
      two : (allowed s.shape x.words x.bytes ≡ true) × ((apart_of x.row && leb (length x.row) (broken_of x.row (get_or x.words 0 0) (room_all x.row x.holds.bytes))) ≡ true)
      two = both (allowed s.shape x.words x.bytes) _ ok

      rules : Rules s.shape x.words x.bytes
      rules = rules_of s.shape x.words x.bytes two.0

  -- ---- runs

  module _ (R : ℕ) where
    abbrev L : state.Settings
    L = settings_of s R

    record Ends (st : Standby) (cs : List Call) (z : Lent) : Type 0 where
      ran : stands_for s z ≡ run L st cs
      allowed_so : Allowed s z
      same : room_all z.row z.holds.bytes ≡ R

    ends : {x z : Lent} {cs : List Call} → Runs s x cs z → Allowed s x → room_all x.row x.holds.bytes ≡ R → (st : Standby) → stands_for s x ≡ st → Ends st cs z
    ends no_calls ok r st e = record { ran = e; allowed_so = ok; same = r }
    ends (call {c} p rest) ok r st e =
        let o = one s R ok r p st e in
        let m = ends rest o.allowed o.same (step L st c).state o.state in
        record { ran = m.ran; allowed_so = m.allowed_so; same = m.same }

    again : (g : ℕ) {x z : Lent} {cs : List Call} (r : Runs s x cs z) → Allowed s x → room_all x.row x.holds.bytes ≡ R → (st : Standby) → stands_for s x ≡ st → binds_again L g st cs ≡ bound_again s g r
    again g no_calls ok r st e = refl
    again g (call {c} p rest) ok r st e =
        let o = one s R ok r p st e in
        let m = again g rest o.allowed o.same (step L st c).state o.state in
        λ j. calls_bind (sym e j).counters.version g c && accepted (sym o.answer j) || m j

  module _ (x : Lent) (ok : Allowed s x) where
    abbrev R₀ : ℕ
    R₀ = room_all x.row x.holds.bytes

    abbrev L₀ : state.Settings
    L₀ = settings s x

    abbrev st : Standby
    st = stands_for s x

    theorem : model.OneHandle L₀ st
    theorem = one_handle_each L₀ st (row_rules x ok)

    module _ {y : Lent} {c : Call} {a : Answer} {h : ℕ} {k : Key} (q : Binds s x y c a h k) where
      first : After s R₀ st c y a
      first = one s R₀ ok refl q.called st refl

      binds : model.Binds L₀ st c h k
      binds = record { bytes = q.bytes; epoch = q.epoch; lag = q.lag; hands = q.hands; reads = q.reads; is_accepted = subst (λ (b : answer.Answer). T (accepted b)) first.answer q.is_accepted }

      removed : (g : ℕ) (b : Bound) → model.Removed L₀ st c g b → Removed s x y c g b
      removed g b m =
          record {
            unbound_so = λ cs z r u.
                ap (λ (t : Standby). find g t.handles) (after r).ran ∙ m.unbound_so cs (again R₀ g r first.allowed first.same (step L₀ st c).state first.state ∙ u);
            batch_is_14 = λ cs z r u p d w e n part own hands reads le v b₁ called.
                let z₁ = after r in
                let o = one s R₀ z₁.allowed_so z₁.same called (run L₀ (step L₀ st c).state cs) z₁.ran in
                o.answer
                ∙ m.batch_is_14 cs (again R₀ g r first.allowed first.same (step L₀ st c).state first.state ∙ u) (sym (ap (λ (t : Standby). t.counters.promoted) z₁.ran) ∙ p) d w e n part own hands (subst (λ (t : Standby). given t.counters.version w ≡ intact (batch g e n part own [])) z₁.ran reads)
                (subst (λ (t : Standby). t.counters.epoch ≤ e) z₁.ran le);
            forgotten = λ x₁ b₁ ok₁ same e at cs z z₁ r r₁.
                (ends R₀ r₁ ok₁ same (with_handle st g b₁) e).ran ∙ m.forgotten b₁ at cs ∙ sym (ends R₀ r ok refl st refl).ran;
            same_answers = λ x₁ b₁ ok₁ same e at cs z z₁ r r₁ d u u₁ a a₁ p p₁.
                let t = ends R₀ r ok refl st refl in
                let t₁ = ends R₀ r₁ ok₁ same (with_handle st g b₁) e in
                (one s R₀ t₁.allowed_so t₁.same p₁ (run L₀ (with_handle st g b₁) (c ∷ cs)) t₁.ran).answer
                ∙ ap (λ (u : Standby). (step L₀ u d).answer) (m.forgotten b₁ at cs) ∙ sym (one s R₀ t.allowed_so t.same p (run L₀ st (c ∷ cs)) t.ran).answer;
          }
        where
          after : {cs : List Call} {z : Lent} → Runs s y cs z → Ends R₀ (step L₀ st c).state cs z
          after r = ends R₀ r first.allowed first.same (step L₀ st c).state first.state

      module _ (limit : ℕ) (A : Session) (held : Holdable s.shape.bytes s.shape.messages A) (suit : suits (spoken x) A.stamp ≡ true)
          (area : hold_length s.shape.bytes s.shape.messages A.stamp ≤ room_all x.row x.holds.bytes) (h_u32 : h < 2 ^ 32)
          (e_u64 : x.counters.epoch.0 ≤ top) (few : length (whole_batches limit A) ≤ top) where
        -- its session place, and the session there
        abbrev P : ℕ
        P = place_of k st.places

        abbrev B : Session
        B = or_new (session_at st.places P)

        abbrev K : OwnKey
        K = record { key = k; earlier = 0 }

        rules₀ : Rules s.shape x.words x.bytes
        rules₀ = rules_of s.shape x.words x.bytes (both (allowed s.shape x.words x.bytes) _ ok).0

        model_start : ModelStart L₀ limit A B K h (new_bound P) (step L₀ st c).state
        model_start = starts_after L₀ limit A st h k c (row_rules x ok) binds rules₀.room.bytes_limit rules₀.room.messages_limit held suit area h_u32 e_u64 few

        start : Start s limit A B K h (new_bound P) y
        start =
            record {
              allowed = first.allowed;
              A_held = held;
              unpromoted = ap (λ (t : Standby). t.counters.promoted) first.state ∙ model_start.unpromoted;
              bound_so = ap (λ (t : Standby). find h t.handles) first.state ∙ model_start.bound_so;
              is_B = ap (λ (t : Standby). session_at t.places P) first.state ∙ model_start.is_B;
              its_key = ap (λ (t : Standby). own_key t.places P) first.state ∙ model_start.its_key;
              nothing_held = refl;
              suits_so = ap (λ (t : Standby). suits t.counters.version A.stamp) first.state ∙ model_start.suits_so;
              area = subst (λ (n : ℕ). hold_length s.shape.bytes s.shape.messages A.stamp ≤ n) (sym first.same) area;
              handle_u32 = h_u32;
              epoch_u64 = subst (λ (t : Standby). t.counters.epoch ≤ top) (sym first.state) model_start.epoch_u64;
              sendable = model_start.sendable;
            }

        sent : SentToNew s limit A B k h P y
        sent =
            record {
              claim = λ cs z d. demand_3 s limit A B K h (new_bound P) y start cs z d;
              ends_in_A = λ shape w a₁ fs t out out' so said z r. all_sent s limit A B K h (new_bound P) y start shape w a₁ fs t so said r;
            }

    -- THE THEOREM
    pub one_handle_on_code : OneHandle s x
    one_handle_on_code =
        record {
          one_each = λ cs z r g h b b₁ p q e.
              let t = (ends R₀ r ok refl st refl).ran in
              theorem.one_each cs g h b b₁ (sym (ap (λ (u : Standby). find g u.handles) t) ∙ p) (sym (ap (λ (u : Standby). find h u.handles) t) ∙ q) e;
          row_apart = λ cs z r. row_kept z (ends R₀ r ok refl st refl).allowed_so;
          never_full = λ long cs z r c y a called e.
              let z₁ = ends R₀ r ok refl st refl in
              let o = one s R₀ z₁.allowed_so z₁.same called (run L₀ st cs) z₁.ran in
              theorem.never_full (omega (arith, long, row_long (lengths_all x.row x.holds) x.row x.holds)) cs c (sym o.answer ∙ e);
          removes = λ c h g k b y a q n f at. removed q g b (theorem.removes c h g k b (binds q) n f at);
          sent_to_new = λ limit A c h k y a q held suit area h_u32 e_u64 few. sent q limit A held suit area h_u32 e_u64 few;
        }
