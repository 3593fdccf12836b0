-- What the entry points promise, call after call, is the model's run of the same calls. Assumes nothing.
use Prim.Native.Nat.{ℕ}
use mathlib.Core.Path.{◌≡◌, refl, sym, ap, subst, ◌∙◌}
use mathlib.Core.Bool.{Bool, true, false, cond, ◌&&◌, ◌||◌}
use mathlib.Core.List.{List}
use lib.Dec.{T, eqb}
use Rattle.model_frame.specs.Frame.{Frame}
use Rattle.model_frame.specs.Parse.{is_empty}
use Rattle.model_standby.specs.Answer.{accepted}
use Rattle.model_standby.specs.Answer as answer
use Rattle.model_standby.specs.State.{Standby, Call, Result}
use Rattle.model_standby.specs.State as state
use Rattle.model_standby.specs.Standby.{step, run}
use Rattle.model_standby.specs.Demand.{Aside, FirstList}
use Rattle.model_standby.specs.Demand as model
use Rattle.standby_state.specs.declared.Settings.{Settings}
use Rattle.standby_state.specs.declared.Answer.{Answer}
use Rattle.standby_state.specs.Answers.{answer_of}
use Rattle.standby_state.specs.Outcomes.{settings_of}
use Rattle.standby_step.specs.Steps.{room_of}
use Rattle.standby_step.specs.Calls.{room_all}
use Rattle.theorem_whole_copy.specs.Demand.{Lent, stands_for, Allowed, Calls, Runs, no_calls, call, First, ends, ours, aside, flushes, drops, took_last, AllTaken}

module _ (s : Settings) (room : ℕ) where
  abbrev L : state.Settings
  L = settings_of s room

  -- a call from what x stands for
  pub record After (st : Standby) (c : Call) (y : Lent) (a : Answer) : Type 0 where
    pub state : stands_for s y ≡ (step L st c).state
    pub answer : answer_of y.bytes a ≡ (step L st c).answer
    pub allowed : Allowed s y
    pub same : room_all y.row y.holds.bytes ≡ room

  pub one : {x y : Lent} {c : Call} {a : Answer} → Allowed s x → room_all x.row x.holds.bytes ≡ room → Calls s c x y a → (st : Standby) → stands_for s x ≡ st → After st c y a
  one {x} {y} {c} {a} ok r p st e =
      let q = p.steps ok in
      let is : ◌≡◌ {A = Result} (record { state = stands_for s y; answer = answer_of y.bytes a }) (step L st c) = q.is ∙ (λ j. step (settings_of s (r j)) (e j) c) in
      record {
        state = ap (λ (t : Result). t.state) is;
        answer = ap (λ (t : Result). t.answer) is;
        allowed = q.allowed;
        same = (λ j. room_of (q.holds_length j) (q.row_length j)) ∙ r;
      }

  pub runs : {x z : Lent} {cs : List Call} → Runs s x cs z → Allowed s x → room_all x.row x.holds.bytes ≡ room → (st : Standby) → stands_for s x ≡ st → run L st cs ≡ stands_for s z
  runs no_calls ok r st e = sym e
  runs (call {c} p rest) ok r st e =
      let o = one ok r p st e in
      runs rest o.allowed o.same (step L st c).state o.state

  module _ {e : ℕ} where
    pub record Modelled {left : List Frame} {x z : Lent} {cs : List Call} (d : First s e left x cs z) (st : Standby) : Type 0 where
      pub list : FirstList L e left st cs
      pub took : model.model_took_last list ≡ took_last s d
      pub taken : model.ModelAllTaken list → AllTaken s d
      pub ran : run L st cs ≡ stands_for s z
      pub allowed : Allowed s z
      pub same : room_all z.row z.holds.bytes ≡ room

    pub modelled : {left : List Frame} {x z : Lent} {cs : List Call} (d : First s e left x cs z) → Allowed s x → room_all x.row x.holds.bytes ≡ room → (st : Standby) → stands_for s x ≡ st → Modelled d st
    modelled ends ok r st i = record { list = model.list_ends; took = refl; taken = λ t. t; ran = sym i; allowed = ok; same = r }
    modelled (ours {left} {c} hands p rest) ok r st i =
        let o = one ok r p st i in
        let m = modelled rest o.allowed o.same (step L st c).state o.state in
        record {
          list = model.ours_next hands m.list;
          took = λ j. is_empty left && accepted (sym o.answer j) || m.took j;
          taken = λ t. (subst (λ (a : answer.Answer). T (accepted a)) (sym o.answer) t.0, m.taken t.1);
          ran = m.ran;
          allowed = m.allowed;
          same = m.same;
        }
    modelled (aside {y} {c} {w} {a} hands p q rest) ok r st i =
        let o = one ok r p st i in
        let m = modelled rest o.allowed o.same (step L st c).state o.state in
        record { list = model.aside_next hands (subst (Aside st.counters.version e w) o.answer (subst (λ (v : ℕ). Aside v e w (answer_of y.bytes a)) (ap (λ (t : Standby). t.counters.version) i) q)) m.list; took = m.took; taken = m.taken; ran = m.ran; allowed = m.allowed; same = m.same }
    modelled (flushes n p rest) ok r st i =
        let o = one ok r p st i in
        let m = modelled rest o.allowed o.same (step L st (state.flush n)).state o.state in
        record { list = model.flush_next n m.list; took = m.took; taken = m.taken; ran = m.ran; allowed = m.allowed; same = m.same }
    modelled (drops {x} n p rest) ok r st i =
        let o = one ok r p st i in
        let m = modelled rest o.allowed o.same (step L st (state.disconnected_from n)).state o.state in
        record {
          list = model.drop_next n m.list;
          took = m.took;
          taken = λ t.
              go (eqb n x.counters.connections) (model.ModelAllTaken m.list) (AllTaken s rest) m.taken
              (subst (λ (u : Standby). cond (eqb n u.counters.connections) (Unit {0}) (model.ModelAllTaken m.list)) (sym i) t);
          ran = m.ran;
          allowed = m.allowed;
          same = m.same;
        }
      where
        go : (t : Bool) (P Q : Type 0) → (P → Q) → cond t (Unit {0}) P → cond t (Unit {0}) Q
        go true P Q f u = u
        go false P Q f u = f u
