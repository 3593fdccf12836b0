-- The standby's session of a key stays exactly the plain copy's, whatever frames, flushes and drops come.
-- Assumes nothing.
use mathlib.Core.Path.{◌≡◌, refl, sym, ap, subst, ◌∙◌}
use Prim.Native.Nat.{ℕ}
use mathlib.Core.List.{List, [], ◌∷◌, ◌++◌}
use mathlib.Core.Option.{Option, none, some, map}
use mathlib.Core.Bool.{Bool, true, false, cond, not, ◌||◌}
use lib.ListN.{get_elem?}
use lib.Dec.{T, eqb}
use Rattle.model_frame.specs.Frame.{Reason, Change, Part, AppRecord, Frame, hello, welcome, bind, batch, ack, nack, bound, checked}
use Rattle.model_session.specs.Session.{Session, apply_all}
use Rattle.model_standby.specs.Answer.{reply, Given, damaged, intact, given, refused, is_reply}
use Rattle.model_standby.specs.Row.{Row, freed, find, has_room, put}
use Rattle.model_standby.specs.Store.{Place, place_of, on_stored, on_place, session_at, changed}
use Rattle.model_standby.specs.State.{Settings, Bound, Standby, Result, Call, on_frame_held, on_frame, flush, disconnected_from, promote, promote_unchecked, new_bound, none_held, numbered}
use Rattle.model_standby.specs.Handles.{apart, without_others}
use Rattle.model_standby.specs.Standby.{with_handle, run_pending, due, summed, holding, applied, on_given, step, run}
use Rattle.model_standby.specs.PlainCopy.{OwnKey, own_key, key_is, Copy, set_at, bound_key, bound_held, copy_at, copy_settle, copy_batch, copy_frame, copy_given, copy_step, copy_run}
use Rattle.model_standby.specs.Demand.{not_promotion, no_promotions}
use Rattle.model_session.proofs.Basics.{and_l, and_r, cond_cases, cond-true, cond-false, eqb_true, eqb_sound, none≢some, some_inj}
use Rattle.model_standby.proofs.Outcomes.{Nacked, stale_bind, lag_bind, stale_batch, stale_checked, other_checked, Gathers, of_commit, of_last, Batches, refuses, clears, raises, holds, applies, diverges, Does, turns, tells, nacks, greets, binds, checks, batches, does}
use Rattle.model_standby.proofs.Rows.{find_freed, find_put_self, find_put_same, find_put_other}
use Rattle.model_standby.proofs.Handles.{others_found}
use Rattle.model_standby.proofs.RowKept.{apart_step}
use Rattle.model_standby.proofs.Places.{session_there, own_is, bind_is, own_on, at_on_same, at_on_other, pending_session, pending_own, open_own, open_session}

-- for every bound handle: its key in the copy is k just if its place is `here`, and its held changes are the copy's
abbrev Match : OwnKey → ℕ → Row Bound → (ℕ → Option OwnKey) → (ℕ → List Change) → Type 0
Match k here t K H = (h : ℕ) (b : Bound) → find h t ≡ some b → (key_is k (K h) ≡ eqb b.place here) × (H h ≡ b.held)

-- the place of k is `here`, and the session there is the copy's
pub record Tracks (k : OwnKey) (here : ℕ) (s : Standby) (c : Copy) : Type 0 where
  pub same_place : own_key s.places here ≡ some k
  pub same_session : session_at s.places here ≡ some c.session
  pub same_handles : Match k here s.handles c.key_of c.held_of

-- ---- handles

set_at_same : {A : Type 0} (h : ℕ) (v : A) (f : ℕ → A) → set_at h v f h ≡ v
set_at_same h v f = cond-true v (f h) (eqb_true h)

set_at_other : {A : Type 0} (h : ℕ) (v : A) (f : ℕ → A) (x : ℕ) → eqb x h ≡ false → set_at h v f x ≡ f x
set_at_other h v f x e = cond-false v (f x) e

module _ (k : OwnKey) (here : ℕ) where
  match_freed : (t : Row Bound) (K : ℕ → Option OwnKey) (H : ℕ → List Change) → Match k here (freed t) K H
  match_freed t K H h b p = absurd (none≢some (sym (find_freed h t) ∙ p))

  -- handle h becomes b: its place stays, its held changes are those that H' has at h
  match_set : (t : Row Bound) (K : ℕ → Option OwnKey) (H H' : ℕ → List Change) (h : ℕ) (b : Bound) → Match k here t K H → key_is k (K h) ≡ eqb b.place here → H' h ≡ b.held
      → ((x : ℕ) → eqb x h ≡ false → H' x ≡ H x) → Match k here (put h b t) K H'
  match_set t K H H' h b m p q r x b₁ f = go (eqb x h) refl
    where
      go : (w : Bool) → eqb x h ≡ w → (key_is k (K x) ≡ eqb b₁.place here) × (H' x ≡ b₁.held)
      go true e =
          let xh : x ≡ h = eqb_sound x h e in
          let bb : b₁ ≡ b = find_put_self h b b₁ t (ap (λ (y : ℕ). find y (put h b t)) (sym xh) ∙ f) in
          (ap (λ (y : ℕ). key_is k (K y)) xh ∙ p ∙ ap (λ (y : Bound). eqb y.place here) (sym bb), ap H' xh ∙ q ∙ ap (λ (y : Bound). y.held) (sym bb))
      go false e =
          let o = m x b₁ (sym (find_put_other x h b t e) ∙ f) in
          (o.0, r x e ∙ o.1)

  -- no handle is in two places, so one that is still there is as it was. Were a handle in two places, a Bind that frees the first would bring the second to
  -- life, of which the copy knows nothing
  match_others : (t : Row Bound) (K : ℕ → Option OwnKey) (H : ℕ → List Change) (h n : ℕ) → apart t ≡ true → Match k here t K H → Match k here (without_others h n t) K H
  match_others t K H h n a m x b f = m x b (others_found h n x b t a f)

  match_put : (t : Row Bound) (K : ℕ → Option OwnKey) (H : ℕ → List Change) (h : ℕ) (j : OwnKey) (n : ℕ) → key_is k (some j) ≡ eqb n here → Match k here t K H → has_room h t ≡ true
      → Match k here (put h (new_bound n) t) (set_at h (some j) K) (set_at h [] H)
  match_put t K H h j n kj m r x b f = go (eqb x h) refl
    where
      go : (w : Bool) → eqb x h ≡ w → (key_is k (set_at h (some j) K x) ≡ eqb b.place here) × (set_at h [] H x ≡ b.held)
      go true e =
          let xh : x ≡ h = eqb_sound x h e in
          let bb : new_bound n ≡ b = some_inj (sym (find_put_same h (new_bound n) t r) ∙ ap (λ (y : ℕ). find y (put h (new_bound n) t)) (sym xh) ∙ f) in
          (ap (key_is k) (cond-true (some j) (K x) e) ∙ kj ∙ ap (λ (y : Bound). eqb y.place here) bb, cond-true _ _ e ∙ ap (λ (y : Bound). y.held) bb)
      go false e =
          let o = m x b (sym (find_put_other x h (new_bound n) t e) ∙ f) in
          (ap (key_is k) (set_at_other h (some j) K x e) ∙ o.0, set_at_other h [] H x e ∙ o.1)

  tracks_pending : (w : Bool) (s : Standby) (c : Copy) → Tracks k here s c → Tracks k here (run_pending w s) c
  tracks_pending w s c t = record { same_place = pending_own w s here k t.same_place; same_session = pending_session w s here ∙ t.same_session; same_handles = t.same_handles }

-- ---- the answers

module _ (L : Settings) (k : OwnKey) (here : ℕ) where
  -- the copy after a frame that was answered so
  abbrev After : Copy → Frame → Result → Type 0
  After c f r = Tracks k here r.state (copy_frame L k c f r.answer)

  -- the changes are applied: b, with nothing held, stands for handle h; cs is what the copy held, then the batch's own
  settled_yes : (s : Standby) (c : Copy) (h : ℕ) (b : Bound) (n : ℕ) (cs own : List Change) → Tracks k here s c → key_is k (c.key_of h) ≡ eqb b.place here → b.held ≡ []
      → cs ≡ c.held_of h ++ own → Tracks k here (applied L s h b n cs) (copy_settle L k c h own)
  settled_yes s c h b n cs own t p q r =
      record {
        same_place = own_on here b.place (changed L.C L.M cs) s.places k t.same_place;
        same_session = go (eqb b.place here) refl ∙ sym (ap (λ (x : Bool). some (cond x (apply_all L.C L.M (c.held_of h ++ own) c.session) c.session)) p);
        same_handles =
            match_set k here s.handles c.key_of c.held_of (set_at h [] c.held_of) h (numbered n b) t.same_handles p
            (set_at_same h [] c.held_of ∙ sym q) (set_at_other h [] c.held_of);
      }
    where
      up : (o : Option Place) → map (λ (x : Place). x.stored.session) o ≡ some c.session → map (λ (x : Place). x.stored.session) (map (on_stored (changed L.C L.M cs)) o) ≡ some (apply_all L.C L.M cs c.session)
      up none e = absurd (none≢some e)
      up (some x) e = ap (λ (y : Session). some (apply_all L.C L.M cs y)) (some_inj e)

      go : (w : Bool) → eqb b.place here ≡ w → session_at (on_place b.place (changed L.C L.M cs) s.places) here ≡ some (cond (eqb b.place here) (apply_all L.C L.M (c.held_of h ++ own) c.session) c.session)
      go true e =
          ap (λ (n : ℕ). session_at (on_place n (changed L.C L.M cs) s.places) here) (eqb_sound b.place here e)
          ∙ ap (map (λ (x : Place). x.stored.session)) (at_on_same here (changed L.C L.M cs) s.places)
          ∙ up (get_elem? s.places here) t.same_session
          ∙ ap (λ (l : List Change). some (apply_all L.C L.M l c.session)) r
          ∙ sym (ap {B = Option Session} some (cond-true _ _ e))
      go false e =
          ap (map (λ (x : Place). x.stored.session)) (at_on_other here b.place (changed L.C L.M cs) s.places e)
          ∙ t.same_session
          ∙ sym (ap {B = Option Session} some (cond-false _ _ e))

  -- handle h gets b, with nothing held
  settled_no : (s : Standby) (c : Copy) (h : ℕ) (b : Bound) → Tracks k here s c → key_is k (c.key_of h) ≡ eqb b.place here → b.held ≡ []
      → Tracks k here (with_handle s h b) (record { session = c.session; key_of = c.key_of; held_of = set_at h [] c.held_of })
  settled_no s c h b t p q =
      record {
        same_place = t.same_place;
        same_session = t.same_session;
        same_handles = match_set k here s.handles c.key_of c.held_of (set_at h [] c.held_of) h b t.same_handles p (set_at_same h [] c.held_of ∙ sym q) (set_at_other h [] c.held_of);
      }

  -- what the copy gathers is what the standby does: the handle's key and nothing held, those held and then its own
  record Gathered (c : Copy) (h : ℕ) (p : Part) (own : List Change) (b₁ : Bound) (all : List Change) : Type 0 where
    its_key : key_is k (c.key_of h) ≡ eqb b₁.place here
    none_held_lem : b₁.held ≡ []
    is_all : all ≡ c.held_of h ++ own
    settles : copy_batch L k c h p own ≡ copy_settle L k c h own

  gathered : {p : Part} {b b₁ : Bound} {own all : List Change} (s : Standby) (c : Copy) (h : ℕ) → Tracks k here s c → find h s.handles ≡ some b → Gathers L p b own b₁ all → Gathered c h p own b₁ all
  gathered s c h t f (of_commit {b} {cs = own} e) =
      let o = t.same_handles h b f in
      record { its_key = o.0; none_held_lem = e; is_all = sym (ap (λ (l : List Change). l ++ own) (o.1 ∙ e)); settles = refl }
  gathered s c h t f (of_last {b} {cs = own} q) =
      let o = t.same_handles h b f in
      record { its_key = o.0; none_held_lem = refl; is_all = sym (ap (λ (l : List Change). l ++ own) o.1); settles = refl }

  after_batch : {s : Standby} {h n : ℕ} {p : Part} {own : List Change} {r : Result} (c : Copy) (e : ℕ) (apps : List AppRecord) → Batches L s h n p own r → Tracks k here s c → After c (batch h e n p own apps) r
  after_batch c e apps (refuses u) t = t
  after_batch {s} {h} c e apps (clears {b} f) t = settled_no s c h (none_held b) t (t.same_handles h b f).0 refl
  after_batch {s} {h} {own} c e apps (raises {b} f u) t =
      record {
        same_place = t.same_place;
        same_session = t.same_session;
        same_handles = match_set k here s.handles c.key_of c.held_of c.held_of h (summed b own) t.same_handles (t.same_handles h b f).0 (t.same_handles h b f).1 (λ _ _. refl);
      }
  after_batch {s} {h} {n} {own} c e apps (holds {b} f u q) t =
      subst (λ (p : Part). Tracks k here (with_handle s h (holding b n own)) (copy_batch L k c h p own)) (sym u)
      (record {
        same_place = t.same_place;
        same_session = t.same_session;
        same_handles =
            match_set k here s.handles c.key_of c.held_of (set_at h (c.held_of h ++ own) c.held_of) h (holding b n own) t.same_handles (t.same_handles h b f).0
            (set_at_same h (c.held_of h ++ own) c.held_of ∙ ap (λ (l : List Change). l ++ own) (t.same_handles h b f).1)
            (set_at_other h (c.held_of h ++ own) c.held_of);
      })
  after_batch {s} {h} {n} {own} c e apps (applies {b₁} {all} f g u) t =
      let o = gathered s c h t f g in
      subst (Tracks k here (applied L s h b₁ n all)) (sym o.settles) (settled_yes s c h b₁ n all own t o.its_key o.none_held_lem o.is_all)
  after_batch {s} {h} c e apps (diverges {b₁} f g) t =
      let o = gathered s c h t f g in
      settled_no s c h b₁ t o.its_key o.none_held_lem

  copy_refused : (c : Copy) (f : Frame) (n : ℕ) → copy_frame L k c f (refused n) ≡ c
  copy_refused c (hello v e node kinds) n = refl
  copy_refused c (welcome e i) n = refl
  copy_refused c (bind h e lag j) n = refl
  copy_refused c (batch h e m p cs apps) n = refl
  copy_refused c (ack h m) n = refl
  copy_refused c (nack h r) n = refl
  copy_refused c (bound h m) n = refl
  copy_refused c (checked h e i) n = refl

  copy_nacked : {f : Frame} {h : ℕ} {r : Reason} (c : Copy) → Nacked f h r → copy_frame L k c f (reply (nack h r)) ≡ c
  copy_nacked c stale_bind = refl
  copy_nacked c lag_bind = refl
  copy_nacked c stale_batch = refl
  copy_nacked c stale_checked = refl
  copy_nacked c other_checked = refl

  after : {s : Standby} {f : Frame} {r : Result} (c : Copy) → Does L s f r → apart s.handles ≡ true → Tracks k here s c → After c f r
  after {s} {f} c (turns {n} u) a t = subst (Tracks k here s) (sym (copy_refused c f n)) t
  after c tells a t = t
  after {s} c (nacks q) a t = subst (Tracks k here s) (sym (copy_nacked c q)) t
  after {s} c (greets le) a t = record { same_place = t.same_place; same_session = t.same_session; same_handles = match_freed k here s.handles c.key_of c.held_of }
  after {s} c (binds {h} {k = j} le st p q) a t =
      record {
        same_place = open_own j s.places here k t.same_place;
        same_session = open_session j s.places here (session_there s.places here c.session t.same_session) ∙ t.same_session;
        same_handles =
            match_put k here (without_others h (place_of j s.places) s.handles) c.key_of c.held_of h (record { key = j; earlier = 0 }) (place_of j s.places)
            (bind_is s.places here k j t.same_place) (match_others k here s.handles c.key_of c.held_of h (place_of j s.places) a t.same_handles) q;
      }
  after c (checks le) a t = record { same_place = t.same_place; same_session = t.same_session; same_handles = t.same_handles }
  after {s} c (batches {e} {apps} le d) a t = after_batch c e apps d (record { same_place = t.same_place; same_session = t.same_session; same_handles = t.same_handles })

  after_given : (s : Standby) (c : Copy) (g : Given) → apart s.handles ≡ true → Tracks k here s c → Tracks k here (on_given L s g).state (copy_given L k c g (on_given L s g).answer)
  unfolding on_given
  after_given s c (damaged n) a t = t
  after_given s c (intact f) a t =
      cond_cases (After c f) s.counters.promoted (λ _. subst (Tracks k here s) (sym (copy_refused c f 10)) t)
      (λ _. after c (does L (run_pending (due s.pending f) s) f) a (tracks_pending k here (due s.pending f) s c t))

  -- (e), one call
  pub tracks_step : (s : Standby) (c : Copy) (x : Call) → T (not_promotion x) → apart s.handles ≡ true → Tracks k here s c → Tracks k here (step L s x).state (copy_step L k s.counters.version c x (step L s x).answer)
  unfolding step
  tracks_step s c (on_frame_held w) u a t = after_given s c (given s.counters.version w) a t
  tracks_step s c (on_frame w) u a t =
      tracks_pending k here (is_reply (on_given L s (given s.counters.version w)).answer) (on_given L s (given s.counters.version w)).state _ (after_given s c (given s.counters.version w) a t)
  tracks_step s c (flush n) u a t =
      cond_cases (λ (r : Result). Tracks k here r.state c) (not (eqb n s.counters.connections) || s.counters.promoted) (λ _. t) (λ _. tracks_pending k here true s c t)
  tracks_step s c (disconnected_from n) u a t =
      cond_cases (λ (r : Standby). Tracks k here r c) (eqb n s.counters.connections)
      (λ _. record { same_place = t.same_place; same_session = t.same_session; same_handles = match_freed k here s.handles c.key_of c.held_of }) (λ _. t)
  tracks_step s c promote u a t = absurd u
  tracks_step s c promote_unchecked u a t = absurd u

  -- (e), a list
  pub tracks_run : (s : Standby) (c : Copy) (xs : List Call) → T (no_promotions xs) → apart s.handles ≡ true → Tracks k here s c → Tracks k here (run L s xs) (copy_run L k c s xs)
  tracks_run s c [] u a t = t
  tracks_run s c (x ∷ xs) u a t =
      tracks_run (step L s x).state (copy_step L k s.counters.version c x (step L s x).answer) xs (and_r (not_promotion x) (no_promotions xs) u) (apart_step L s x a)
      (tracks_step s c x (and_l (not_promotion x) (no_promotions xs) u) a t)

-- at first
pub copy_start : (k : OwnKey) (here : ℕ) (s : Standby) (B : Session) → own_key s.places here ≡ some k → session_at s.places here ≡ some B → Tracks k here s (copy_at B s)
copy_start k here s B p q =
    record {
      same_place = p;
      same_session = q;
      same_handles = λ h b f. (ap (λ (o : Option Bound). key_is k (bound_key s.places o)) f ∙ own_is s.places here b.place k p, ap bound_held f);
    }
