-- What a Commit or LastWhole gives once its changes are settled is the definition's, and so is a Commit's way. Assumes nothing.
use mathlib.Core.Path.{◌≡◌, refl, sym, ap, subst, ◌∙◌}
use mathlib.Core.Bool.{Bool, true, false, cond, not, true≢false}
use mathlib.Core.List.{List, [], ◌∷◌, ◌++◌}
use Prim.Native.Nat.{ℕ, ◌<◌}
use native.Mathlib.Omega.{arith}
use lib.ListN.{length, get_or}
use Rattle.base_refusals.specs.declared.Refusal.{Refusal}
use Rattle.model_frame.specs.Frame.{Part, Change, commit, diverged, ack, nack}
use Rattle.model_frame.specs.Parse.{is_empty}
use Rattle.model_frame.specs.Sizes.{sizes}
use Rattle.model_session.specs.Session.{fits}
use Rattle.standby_segments.specs.Segments.{Holds, held_in}
use Rattle.standby_segments.proofs.Meaning.{none_held}
use Rattle.frame_fields.specs.declared.CommitNumber.{CommitNumber}
use Rattle.standby_row.specs.declared.Bound.{Bound as BoundRecord}
use Rattle.store_areas.specs.declared.Shape.{Shape}
use Rattle.store_areas.specs.Areas.{Rules, place_at, places_of}
use Rattle.store_areas.proofs.Lifting.{session_is}
use Rattle.standby_pending.specs.Pending.{pending_of}
use Rattle.standby_commit.specs.Settling.{stays, commits, batch_change, StoreAfter, Settles}
use Rattle.model_standby.specs.Store.{on_place, changed, session_at, or_new}
use Rattle.model_standby.specs.Answer.{reply}
use Rattle.model_standby.specs.State.{Settings, Counters, Bound, numbered}
use Rattle.model_standby.specs.Core.{leave, store, CoreResult, core_says, core_refuse, core_settle, core_part}
use Rattle.standby_part.specs.declared.PartResult.{PartResult}
use Rattle.standby_part.specs.State.{bound_of, core_at, settings_for, holding_to}
use Rattle.standby_part.specs.Part.{settled_of, SettledIs, PartIs}

-- what is left of a Commit or LastWhole once it is settled, as the definition has it
module _ (s : Shape) (h : ℕ) (cs : List Change) (w w' b b' : List ℕ) (yes : Bool) (x : Bound) (n : ℕ) (used : x.place < get_or w 0 0) (g : Settles s x.place h cs w w' b b' yes)
    (c : Counters) (room incarnation lag : ℕ) where
  abbrev L : Settings
  L = settings_for s room incarnation lag

  abbrev Yes : CoreResult
  Yes =
      core_says (record { counters = c; places = on_place x.place (changed s.bytes s.messages cs) (places_of s w b); pending = pending_of w ++ ((h, x.place) ∷ []) }) (store h (numbered n x)) (ack h n)

  abbrev No : CoreResult
  No = core_says (core_at c s w b) (store h x) (nack h diverged)

  next : (or_new (session_at (places_of s w b) x.place)).next_out ≡ (place_at s w b x.place).stored.session.next_out
  next = ap (λ o. (or_new o).next_out) (session_is s w b x.place used)

  pub settle_is : core_settle L (core_at c s w b) h x n cs
      ≡ record { core = core_at c s w' b'; action = store h (cond yes (numbered n x) x); answer = reply (cond yes (ack h n) (nack h diverged)) }
  unfolding core_settle
  settle_is = ap (λ (k : ℕ). cond (fits k cs) Yes No) next ∙ ap (λ (t : Bool). cond t Yes No) (sym g.is) ∙ go yes g.places g.pending
    where
      go : (y : Bool) → places_of s w' b' ≡ cond y (on_place x.place (changed s.bytes s.messages cs) (places_of s w b)) (places_of s w b)
          → pending_of w' ≡ cond y (pending_of w ++ ((h, x.place) ∷ [])) (pending_of w)
          → cond y Yes No ≡ record { core = core_at c s w' b'; action = store h (cond y (numbered n x) x); answer = reply (cond y (ack h n) (nack h diverged)) }
      go true p q = λ j. record { core = record { counters = c; places = sym p j; pending = sym q j }; action = store h (numbered n x); answer = reply (ack h n) }
      go false p q = λ j. record { core = record { counters = c; places = sym p j; pending = sym q j }; action = store h x; answer = reply (nack h diverged) }

-- what is given, by whether the changes were applied
pub settled_so : {s : Shape} {h : BoundRecord} {n : CommitNumber} {cs : List Change} {w w' b b' : List ℕ} (applied : Bool) → Settles s h.place h.handle cs w w' b b' applied → SettledIs s h n cs w w' b b' (settled_of h n applied)
settled_so true k = record { settles = k; is = refl }
settled_so false k = record { settles = k; is = refl }

-- ---- a part that is settled, with no bytes held then: `rest` is what the definition goes on with, and `sum` its byte sum

module _ (version : ℕ) (s : Shape) (h : BoundRecord) (n : CommitNumber) (part : Part) (cs all : List Change) (w b : List ℕ) (area area' : Holds) (rest : List Change) (sum : ℕ) (used : h.place < get_or w 0 0) where
  abbrev X : Bound
  X = record { place = h.place; number = h.commit_no.0; held = rest; bytes = sum }

  abbrev H₀ : BoundRecord
  H₀ = holding_to h h.commit_no 0 sum

  -- the definition settles it so
  abbrev pub GoesTo : Type 0
  GoesTo = (c : Counters) (incarnation lag : ℕ)
      → core_part (settings_for s (length area.bytes) incarnation lag) (core_at c s w b) h.handle (bound_of version h area) n.0 part cs
      ≡ core_settle (settings_for s (length area.bytes) incarnation lag) (core_at c s w b) h.handle X n.0 all

  nothing : held_in version area' 0 ≡ []
  nothing = none_held version area'.ends

  pub settled_part : held_in version area' 0 ≡ rest → GoesTo → ((t : Bool) → cond t (commits h.handle h.place) stays ≡ batch_change h.handle h.place part t)
      → {w' b' : List ℕ} {d : PartResult} → SettledIs s H₀ n all w w' b b' d → PartIs version s h n.0 part cs w w' b b' area area' d
  settled_part none on change {w'} {b'} {d} g = subst (PartIs version s h n.0 part cs w w' b b' area area') (sym g.is) (go _ g.settles)
    where
      go : (t : Bool) → Settles s h.place h.handle all w w' b b' t → PartIs version s h n.0 part cs w w' b b' area area' (cond t (PartResult.Accepted (holding_to h n 0 sum)) (PartResult.Diverged H₀))
      go true k = record {
        is = λ c incarnation lag.
            (λ j. record { core = core_at c s w' b'; action = store h.handle (record { place = h.place; number = n.0; held = none j; bytes = sum }); answer = reply (ack h.handle n.0) })
            ∙ sym (on c incarnation lag ∙ settle_is s h.handle all w w' b b' true X n.0 used k c (length area.bytes) incarnation lag);
        rules = k.rules;
        store_after = subst (λ x. StoreAfter s x w w' b b') (change true) k.store_after;
        slot = record { place = refl; len = λ _. omega arith; held = sym (ap sizes nothing) };
      }
      go false k = record {
        is = λ c incarnation lag.
            (λ j. record { core = core_at c s w' b'; action = store h.handle (record { place = h.place; number = h.commit_no.0; held = none j; bytes = sum }); answer = reply (nack h.handle diverged) })
            ∙ sym (on c incarnation lag ∙ settle_is s h.handle all w w' b b' false X n.0 used k c (length area.bytes) incarnation lag);
        rules = k.rules;
        store_after = subst (λ x. StoreAfter s x w w' b b') (change false) k.store_after;
        slot = record { place = refl; len = λ _. omega arith; held = sym (ap sizes nothing) };
      }

-- ---- Commit

module _ (version : ℕ) (s : Shape) (h : BoundRecord) (n : CommitNumber) (cs : List Change) (w b : List ℕ) (area : Holds) {t : Bool} (l : t ≡ is_empty (held_in version area h.held_len)) where
  abbrev H : List Change
  H = held_in version area h.held_len

  pub commit_held : t ≡ false → Rules s w b → PartIs version s h n.0 commit cs w w b b area area (PartResult.Refused Refusal.ChangesHeld)
  unfolding core_part
  commit_held some r = record {
    is = λ c incarnation lag.
        sym (ap (λ (t : Bool). cond (not t) (core_refuse (core_at c s w b) leave 15) (core_settle (settings_for s (length area.bytes) incarnation lag) (core_at c s w b) h.handle (bound_of version h area) n.0 cs)) (sym l ∙ some));
    rules = r;
    store_after = (refl, refl);
    slot = tt;
  }

  module _ (empty : t ≡ true) (used : h.place < get_or w 0 0) where
    -- past 15
    past : GoesTo version s h n commit cs cs w b area area H h.held_bytes used
    unfolding core_part
    past c incarnation lag =
        ap (λ (t : Bool). cond (not t) (core_refuse (core_at c s w b) leave 15) (core_settle (settings_for s (length area.bytes) incarnation lag) (core_at c s w b) h.handle (bound_of version h area) n.0 cs)) (sym l ∙ empty)

    none_held_lem : held_in version area 0 ≡ H
    none_held_lem = none_held version area.ends ∙ sym (none_there H (sym l ∙ empty))
      where
        none_there : (x : List Change) → is_empty x ≡ true → x ≡ []
        none_there [] e = refl
        none_there (y ∷ x) e = absurd (true≢false (sym e))

    pub commit_settled : {w' b' : List ℕ} {d : PartResult} → SettledIs s (holding_to h h.commit_no 0 h.held_bytes) n cs w w' b b' d → PartIs version s h n.0 commit cs w w' b b' area area d
    commit_settled = settled_part version s h n commit cs cs w b area area H h.held_bytes used none_held_lem past (λ t. refl)
