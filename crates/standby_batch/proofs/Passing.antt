-- What a Batch's answer says of its changes: whether they were held, how many places there are, whether its handle was bound. Assumes nothing.
use Prim.Native.Nat.{ℕ}
use mathlib.Core.Path.{◌≡◌, refl, ap, ◌∙◌}
use mathlib.Core.Bool.{Bool, true, false, cond, not, ◌&&◌}
use mathlib.Core.List.{List, ◌++◌}
use mathlib.Core.Option.{Option, none, some}
use lib.ListN.{length}
use lib.Dec.{ltb}
use Rattle.model_frame.specs.Frame.{Change, Part, commit, whole, last_whole, ack, nack, diverged}
use Rattle.model_frame.specs.Parse.{is_empty}
use Rattle.model_frame.specs.Sizes.{sizes}
use Rattle.model_session.specs.Session.{fits}
use Rattle.model_standby.specs.Answer.{accepted, is_reply}
use Rattle.model_standby.specs.Store.{changed, session_at, or_new}
use Rattle.model_standby.specs.State.{Settings, Bound, none_held}
use Rattle.model_standby.specs.Standby.{follows, raised, max_whole, starts_with_reset, holding}
use Rattle.model_standby.specs.Core.{Action, leave, store, rebind, clear, Core, CoreResult, core_says, core_settle, core_hold, core_part, core_handle}
use Rattle.model_standby.proofs.Places.{length_on}

-- ---- as many places as before

record Keeps (k : Core) (r : CoreResult) : Type 0 where
  same : length r.core.places ≡ length k.places

either : (k : Core) (t : Bool) {x y : CoreResult} → Keeps k x → Keeps k y → Keeps k (cond t x y)
either k true p q = p
either k false p q = q

module _ (L : Settings) (k : Core) (h : ℕ) where
  settle_keeps : (b : Bound) (n : ℕ) (cs : List Change) → Keeps k (core_settle L k h b n cs)
  unfolding core_settle
  settle_keeps b n cs =
      either k (fits (or_new (session_at k.places b.place)).next_out cs) (record { same = length_on b.place (changed L.C L.M cs) k.places }) (record { same = refl })

  hold_keeps : (b : Bound) (cs : List Change) {go : CoreResult} → Keeps k go → Keeps k (core_hold L k h b cs go)
  unfolding core_hold
  hold_keeps b cs p =
      either k (is_empty b.held && not (starts_with_reset cs)) (record { same = refl })
      (either k (ltb max_whole (raised b cs)) (record { same = refl })
      (either k (ltb L.room (sizes (b.held ++ cs))) (record { same = refl }) p))

  part_keeps : (b : Bound) (n : ℕ) (p : Part) (cs : List Change) → Keeps k (core_part L k h b n p cs)
  unfolding core_part
  part_keeps b n commit cs = either k (not (is_empty b.held)) (record { same = refl }) (settle_keeps b n cs)
  part_keeps b n whole cs = hold_keeps b cs (record { same = refl })
  part_keeps b n last_whole cs = hold_keeps b cs (settle_keeps (none_held b) n (b.held ++ cs))

  handle_keeps : (o : Option Bound) (n : ℕ) (p : Part) (cs : List Change) → Keeps k (core_handle L k h o n p cs)
  unfolding core_handle
  handle_keeps none n p cs = record { same = refl }
  handle_keeps (some b) n p cs = either k (follows b n) (part_keeps b n p cs) (record { same = refl })

  pub as_many : (o : Option Bound) (n : ℕ) (p : Part) (cs : List Change) → length (core_handle L k h o n p cs).core.places ≡ length k.places
  as_many o n p cs = (handle_keeps o n p cs).same

-- ---- a record is stored for a bound handle alone

abbrev pub is_store : Action → Bool
is_store leave = false
is_store (store h b) = true
is_store (rebind h b) = true
is_store clear = false

pub store_none : (L : Settings) (k : Core) (h n : ℕ) (p : Part) (cs : List Change) → is_store (core_handle L k h none n p cs).action ≡ false
unfolding core_handle
store_none L k h n p cs = refl

pub accept_none : (L : Settings) (k : Core) (h n : ℕ) (p : Part) (cs : List Change) → accepted (core_handle L k h none n p cs).answer ≡ false
unfolding core_handle
accept_none L k h n p cs = refl

-- ---- a Whole or LastWhole that follows is answered exactly if it passes 16 to 18

module _ (L : Settings) (k : Core) (h : ℕ) (b : Bound) (n : ℕ) (cs : List Change) where
  -- past 16 to 18
  abbrev pub Passes : Bool
  Passes = not (is_empty b.held && not (starts_with_reset cs)) && (not (ltb max_whole (raised b cs)) && not (ltb L.room (sizes (b.held ++ cs))))

  three : (t u v : Bool) (x y z go : CoreResult) → is_reply x.answer ≡ false → is_reply y.answer ≡ false → is_reply z.answer ≡ false → is_reply go.answer ≡ true
      → is_reply (cond t x (cond u y (cond v z go))).answer ≡ (not t && (not u && not v))
  three true u v x y z go p q r e = p
  three false true v x y z go p q r e = q
  three false false true x y z go p q r e = r
  three false false false x y z go p q r e = e

  held_passes : (go : CoreResult) → is_reply go.answer ≡ true → is_reply (core_hold L k h b cs go).answer ≡ Passes
  unfolding core_hold
  held_passes go e = three (is_empty b.held && not (starts_with_reset cs)) (ltb max_whole (raised b cs)) (ltb L.room (sizes (b.held ++ cs))) _ _ _ go refl refl refl e

  settle_says : (a : Bound) (ds : List Change) → is_reply (core_settle L k h a n ds).answer ≡ true
  unfolding core_settle
  settle_says a ds = go (fits (or_new (session_at k.places a.place)).next_out ds) _ _ refl refl
    where
      go : (t : Bool) (x y : CoreResult) → is_reply x.answer ≡ true → is_reply y.answer ≡ true → is_reply (cond t x y).answer ≡ true
      go true x y p q = p
      go false x y p q = q

  follows_on : follows b n ≡ true → (p : Part) → core_handle L k h (some b) n p cs ≡ core_part L k h b n p cs
  unfolding core_handle
  follows_on f p = ap (λ (t : Bool). cond t (core_part L k h b n p cs) (core_says k (store h (none_held b)) (nack h diverged))) f

  pub whole_passes : follows b n ≡ true → is_reply (core_handle L k h (some b) n whole cs).answer ≡ Passes
  unfolding core_part
  whole_passes f = ap (λ (r : CoreResult). is_reply r.answer) (follows_on f whole) ∙ held_passes (core_says k (store h (holding b n cs)) (ack h n)) refl

  pub last_passes : follows b n ≡ true → is_reply (core_handle L k h (some b) n last_whole cs).answer ≡ Passes
  unfolding core_part
  last_passes f = ap (λ (r : CoreResult). is_reply r.answer) (follows_on f last_whole) ∙ held_passes (core_settle L k h (none_held b) n (b.held ++ cs)) (settle_says (none_held b) (b.held ++ cs))
