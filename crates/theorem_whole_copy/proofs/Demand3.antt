-- DEMAND 3 ON THE CODE, proved: the entry points' promises are the model's steps, and the model's theorem does the rest. Assumes nothing.
use Prim.Native.Nat.{ℕ}
use mathlib.Core.Path.{◌≡◌, refl, sym, ap, ◌∙◌}
use mathlib.Core.Bool.{Bool, cond}
use mathlib.Core.List.{List, [], ◌∷◌, ◌++◌, map}
use mathlib.Core.Option.{some}
use Rattle.base_laws.proofs.Lists.{both}
use Rattle.model_frame.specs.Frame.{Frame}
use Rattle.model_frame.specs.Writing.{encode}
use Rattle.model_session.specs.Session.{Session}
use Rattle.store_areas.specs.declared.Shape.{Shape}
use Rattle.store_areas.specs.Areas.{allowed, Rules, places_of}
use Rattle.store_areas.proofs.Ruling.{rules_of}
use Rattle.model_standby.specs.Store.{session_at}
use Rattle.model_standby.specs.State.{Bound, Standby, Call, on_frame_held}
use Rattle.model_standby.specs.State as state
use Rattle.model_standby.specs.Standby.{step, run}
use Rattle.model_standby.specs.PlainCopy.{OwnKey}
use Rattle.model_standby.specs.Demand as model
use Rattle.model_standby.proofs.Demand3 as theorem
use Rattle.active.specs.declared.Sending.{Sending}
use Rattle.std.specs.Prelude.{None, Ok}
use Rattle.active.specs.Whole.{SendsWhole, Sofar, SentWhole}
use Rattle.standby_state.specs.declared.Settings.{Settings}
use Rattle.standby_step.specs.Calls.{room_all}
use Rattle.standby_step.proofs.Rows.{allowed_apart}
use Rattle.theorem_whole_copy.specs.Demand.{Lent, stands_for, settings, Runs, First, Start, frames_of_a, Claim}
use Rattle.theorem_whole_copy.proofs.Model.{runs, modelled}

run_append : (L : state.Settings) (st : Standby) (cs more : List Call) → run L (run L st cs) more ≡ run L st (cs ++ more)
run_append L st [] more = refl
run_append L st (c ∷ cs) more = run_append L (step L st c).state cs more

module _ (s : Settings) (limit : ℕ) (A B : Session) (k : OwnKey) (h : ℕ) (b : Bound) (x : Lent) (start : Start s limit A B k h b x) where
  abbrev L : state.Settings
  L = settings s x

  abbrev st : Standby
  st = stands_for s x

  rules : Rules s.shape x.words x.bytes
  rules = rules_of s.shape x.words x.bytes (both (allowed s.shape x.words x.bytes) _ start.allowed).0

  model_start : model.ModelStart L limit A B k h b st
  model_start = record {
    C_limit = rules.room.bytes_limit;
    M_limit = rules.room.messages_limit;
    A_held = start.A_held;
    unpromoted = start.unpromoted;
    row_apart = allowed_apart s x.counters x.row x.words x.bytes x.holds start.allowed;
    bound_so = start.bound_so;
    is_B = start.is_B;
    its_key = start.its_key;
    nothing_held = start.nothing_held;
    suits_so = start.suits_so;
    area = start.area;
    handle_u32 = start.handle_u32;
    epoch_u64 = start.epoch_u64;
    sendable = start.sendable;
  }

  -- THE THEOREM
  pub demand_3 : (cs : List Call) (z : Lent) (d : First s x.counters.epoch.0 (frames_of_a s limit A h b x) x cs z) → Claim s limit A B k h b x cs z d
  demand_3 cs z d =
      let m = modelled s (room_all x.row x.holds.bytes) d start.allowed refl st refl in
      let c = theorem.demand_3 L limit A B k h b st model_start cs m.list in
      record {
        all_taken = m.taken c.all_taken;
        is_A_or_B = ap (λ (t : Standby). session_at t.places b.place) (sym m.ran) ∙ c.is_A_or_B ∙ ap (λ (t : Bool). some (cond t A B)) m.took;
        still_allowed = m.allowed;
        is_the_copy = λ more y plain r.
            ap (λ (t : Standby). session_at t.places b.place) (sym (runs s (room_all x.row x.holds.bytes) r m.allowed m.same (run L st cs) (sym m.ran)) ∙ run_append L st cs more)
            ∙ c.is_the_copy more plain;
        copy_is_A_or_B = c.copy_is_A_or_B ∙ ap (λ (t : Bool). cond t A B) m.took;
      }

  -- the frames of A as `send_whole` gives them, over the active's store (shape, w, a): once each in order
  module _ (shape : Shape) (w a : List ℕ) (fs : List (List ℕ)) (t : Sending) (sent : SentWhole limit shape w a A h x.counters.epoch.0 b.number fs t) where
    pub are_A's : Sofar (frames_of_a s limit A h b x) fs
    are_A's = sent.so

    map_map : (gs : List Frame) → map on_frame_held (map encode gs) ≡ theorem.handed L x.counters.epoch.0 gs
    map_map [] = refl
    map_map (g ∷ gs) = ap (λ (cs : List Call). on_frame_held (encode g) ∷ cs) (map_map gs)

    reaches : {z : Lent} → Runs s x (map on_frame_held fs) z → (gs : List Frame) → fs ≡ map encode gs → run L st (theorem.handed L x.counters.epoch.0 gs) ≡ stands_for s z
    reaches r gs e =
        ap (run L st) (sym (ap (map on_frame_held) e ∙ map_map gs)) ∙ runs s (room_all x.row x.holds.bytes) r start.allowed refl st refl

    -- a sending cut short leaves B
    pub cut_short : {z : Lent} (g : Frame) (left : List Frame) → sent.so.left ≡ g ∷ left → Runs s x (map on_frame_held fs) z → session_at (places_of s.shape z.words z.bytes) b.place ≡ some B
    cut_short g left e r =
        ap (λ (u : Standby). session_at u.places b.place) (sym (reaches r sent.so.sent sent.so.bytes))
        ∙ theorem.cut_short L limit A B k h b st model_start sent.so.sent g left (sym (sent.so.all ∙ ap (λ (l : List Frame). sent.so.sent ++ l) e))

    -- all that a sending gives until it says done, handed in, makes the session A
    pub sent_whole : {z : Lent} {out out' : List ℕ} (f : Frame) (gs : List Frame) → f ∷ gs ≡ frames_of_a s limit A h b x → SendsWhole limit shape w a t out out' (Ok None) → Runs s x (map on_frame_held fs) z
        → session_at (places_of s.shape z.words z.bytes) b.place ≡ some A
    sent_whole {out = out} {out' = out'} f gs e said r =
        ap (λ (u : Standby). session_at u.places b.place) (sym (reaches r (f ∷ gs) (sent.then_all out out' said ∙ ap (map encode) (sym e))))
        ∙ theorem.sent_whole L limit A B k h b st model_start f gs e

    pub all_sent : {z : Lent} {out out' : List ℕ} → SendsWhole limit shape w a t out out' (Ok None) → Runs s x (map on_frame_held fs) z → session_at (places_of s.shape z.words z.bytes) b.place ≡ some A
    all_sent {out = out} {out' = out'} said r =
        ap (λ (u : Standby). session_at u.places b.place) (sym (reaches r (frames_of_a s limit A h b x) (sent.then_all out out' said)))
        ∙ theorem.all_sent L limit A B k h b st model_start
