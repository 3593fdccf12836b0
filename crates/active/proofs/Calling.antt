-- Beginning, and one call: what the code answers is what the definitions say. Assumes nothing.
use mathlib.Core.Path.{◌≡◌, refl, sym, ap, ◌∙◌}
use mathlib.Core.Bool.{Bool, true, false, false≢true}
use mathlib.Core.Logic.{◌⊎◌, inl, inr}
use mathlib.Core.List.{List}
use mathlib.Core.Option.{Option, none, some}
use Prim.Native.Nat.{ℕ, zero, suc, ◌+◌, ◌-◌, ◌≤◌, ◌<◌}
use native.Mathlib.Omega.{arith}
use native.Mathlib.Numerals.{add-one}
use lib.ListN.{length}
use lib.Dec.{ltb, leb}
use borrow.Author.Tests.{lt-ltb, le-ltb, le-leb, lt-leb, leb-false}
use Rattle.base_refusals.specs.declared.Refusal.{Refusal}
use Rattle.base_refusals.specs.Numbers.{number_of}
use Rattle.model_text.specs.Version.{is_version}
use Rattle.model_frame.specs.Frame.{Frame}
use Rattle.model_frame.specs.Writing.{encode}
use Rattle.model_session.specs.Session.{Session, top, suits}
use Rattle.model_session.specs.Sender.{Sender, new_sender, cut_from, send_next, cannot_send}
use Rattle.model_session.specs.Whole.{whole_batches}
use Rattle.std.specs.Prelude.{None, Some, Ok, Err}
use Rattle.std.specs.Prelude as answer
use Rattle.std.specs.Option.{is_some}
use Rattle.active_batch.specs.declared.BatchWritten.{BatchWritten}
use Rattle.active_batch.specs.Batch.{frame_from, number_or_none, WroteBatch}
use Rattle.store_areas.specs.declared.Shape.{Shape}
use Rattle.active.specs.declared.Sending.{Sending}
use Rattle.active.specs.Whole.{sender_of, SendStart, start_from, spent, unsuited, turned_down, send_answer, filled_by, step_from, area_from, stored_at, SendsWhole}
use Rattle.active.specs.Whole as whole

-- ---- beginning

module _ (limit version : ℕ) (a : Session) (i h e last : ℕ) where
  pub other_version : is_version version ≡ false → whole.SendStart.refused 11 ≡ start_from limit version (some a) i h e last
  unfolding start_from
  other_version v = sym (rw v refl)

  module _ (v : is_version version ≡ true) where
    pub long_stamp : suits version a.stamp ≡ false → whole.SendStart.refused 32 ≡ start_from limit version (some a) i h e last
    unfolding start_from
    long_stamp u = sym (rw (v, u) refl)

    module _ (u : suits version a.stamp ≡ true) (n : ℕ) (count : n ≡ length (whole_batches limit a)) (small : last ≤ top) where
      pub numbers_past : top - last < n → whole.SendStart.refused 24 ≡ start_from limit version (some a) i h e last
      unfolding start_from cannot_send
      numbers_past g = sym (rw (v, u, lt-ltb top (last + length (whole_batches limit a)) (omega (arith, count))) refl)

      pub numbers_fit : n ≤ top - last → whole.SendStart.ready i version (new_sender h e last) ≡ start_from limit version (some a) i h e last
      unfolding start_from cannot_send
      numbers_fit g = sym (rw (v, u, le-ltb top (last + length (whole_batches limit a)) (omega (arith, count))) refl)

-- ---- one call

-- a sending that isn't spent
pub not_spent : (last : ℕ) (o : answer.Option ℕ) (t : Bool) → t ≡ is_some o → last ≤ top → ((t ≡ true) × (last ≡ top → ⊥)) ⊎ (t ≡ false) → spent last (number_or_none o) ≡ false
not_spent last None t e l b = refl
not_spent last (Some n) t e l (inl b) = lt-leb top last (omega (arith, l, b.1))
not_spent last (Some n) t e l (inr b) = absurd (false≢true (sym b ∙ e))

pub below_top : (last n : ℕ) (o : answer.Option ℕ) → o ≡ Some n → spent last (number_or_none o) ≡ false → last < top
below_top last n o e k = leb-false top last (rw e at k)

-- the frame still to be sent suits
pub suited : (version n : ℕ) (stamp : List ℕ) → suits version stamp ≡ true → unsuited version stamp (some n) ≡ false
suited version zero stamp u = rw u refl
suited version (suc n) stamp u = refl

pub later : (version n : ℕ) (stamp : List ℕ) → (n ≡ 0 → ⊥) → unsuited version stamp (some n) ≡ false
later version zero stamp f = absurd (f refl)
later version (suc n) stamp f = refl

-- a call of the session a by s: what it comes to is why it is turned down, or the answer
module _ (limit : ℕ) (shape : Shape) (w b : List ℕ) (s : Sending) (out : List ℕ) where
  pub not_stored : stored_at shape w b s.place ≡ none → SendsWhole limit shape w b s out out (Err Refusal.RulesBroken)
  unfolding step_from area_from
  not_stored k = record { answer = rw k refl; area = rw k refl; stays_on = tt }

  module _ (a : Session) (k : stored_at shape w b s.place ≡ some a) where
    abbrev down : Option ℕ
    down = turned_down s.version a (sender_of s)

    is_refused : (r : Refusal) → down ≡ some (number_of r) → SendsWhole limit shape w b s out out (Err r)
    unfolding step_from area_from
    is_refused r d = record { answer = rw (k, d) refl; area = rw (k, d) refl; stays_on = tt }

    pub is_spent : is_some s.from ≡ true → top ≤ s.last.0 → SendsWhole limit shape w b s out out (Err Refusal.RulesBroken)
    is_spent f g = is_refused Refusal.RulesBroken (rw (going s.from f) (rw (le-leb top s.last.0 g) refl))
      where
        going : (o : answer.Option ℕ) → is_some o ≡ true → spent s.last.0 (number_or_none o) ≡ leb top s.last.0
        going (Some n) e = refl
        going None e = absurd (false≢true e)

    module _ (fresh : spent s.last.0 (number_or_none s.from) ≡ false) where
      pub is_other : (r : Refusal) → is_version s.version ≡ false → number_of r ≡ 11 → SendsWhole limit shape w b s out out (Err r)
      is_other r v e = is_refused r (rw (fresh, v, e) refl)

      module _ (v : is_version s.version ≡ true) where
        pub is_long : (n : ℕ) → s.from ≡ Some n → n ≡ 0 → suits s.version a.stamp ≡ false → SendsWhole limit shape w b s out out (Err Refusal.LongStamp)
        is_long n f z u = is_refused Refusal.LongStamp (rw (fresh, v, f, z, u) refl)

        goes_on : unsuited s.version a.stamp (number_or_none s.from) ≡ false → down ≡ none
        goes_on u = rw (fresh, v, u) refl

        pub is_done : s.from ≡ None → SendsWhole limit shape w b s out out (Ok None)
        unfolding step_from area_from send_next
        is_done f =
            let d : down ≡ none = goes_on (rw f refl) in
            record { answer = rw (k, d, f) refl; area = rw (k, d, f) refl; stays_on = tt }

-- ---- one call

-- a call that gives a frame, or has no room for it
next_at : (limit : ℕ) (a : Session) (h e last from : ℕ) → send_next limit a (record { handle = h; epoch = e; last = last; from = some from })
    ≡ some (frame_from limit a h e (last + 1) from, record { handle = h; epoch = e; last = last + 1; from = (cut_from limit a from).goes_on })
unfolding send_next frame_from
next_at limit a h e last from = rw (add-one last) refl

module _ (limit : ℕ) (shape : Shape) (w b : List ℕ) (s : Sending) (out : List ℕ) (a : Session) (k : stored_at shape w b s.place ≡ some a) (from : ℕ) (f : s.from ≡ Some from)
    (fresh : s.last.0 < top) (v : is_version s.version ≡ true) (u : unsuited s.version a.stamp (some from) ≡ false) where
  abbrev sent : Frame
  sent = frame_from limit a s.handle s.epoch.0 (s.last.0 + 1) from

  abbrev after : Sender
  after = record { handle = s.handle; epoch = s.epoch.0; last = s.last.0 + 1; from = (cut_from limit a from).goes_on }

  not_down : turned_down s.version a (sender_of s) ≡ none
  not_down = rw (f, lt-leb top s.last.0 fresh, v, u) refl

  going_step : step_from limit s.version (stored_at shape w b s.place) s.place (sender_of s) (length out) ≡ send_answer (length out) s.place s.version (some (sent, after))
  unfolding step_from
  going_step = rw (k, not_down, f) (ap (send_answer (length out) s.place s.version) (next_at limit a s.handle s.epoch.0 s.last.0 from))

  going_area : area_from limit s.version (stored_at shape w b s.place) (sender_of s) out ≡ filled_by (some (sent, after)) out
  unfolding area_from
  going_area = rw (k, not_down, f) (ap (λ (o : Option (Frame × Sender)). filled_by o out) (next_at limit a s.handle s.epoch.0 s.last.0 from))

  module _ (out' : List ℕ) where
    pub is_short : (r : Refusal) → WroteBatch limit a s.handle s.epoch.0 (s.last.0 + 1) from out out' (Err r) → SendsWhole limit shape w b s out out' (Err r)
    is_short r p =
        let n : ltb (length out) (length (encode sent)) ≡ true = lt-ltb (length out) (length (encode sent)) (omega (arith, p.1)) in
        rw p.0 (record { answer = sym (going_step ∙ rw n refl); area = p.2 ∙ sym (going_area ∙ rw n refl); stays_on = tt })

    pub is_frame : (b' : BatchWritten) → WroteBatch limit a s.handle s.epoch.0 (s.last.0 + 1) from out out' (Ok b')
        → SendsWhole limit shape w b s out out' (Ok (Some (record { len = b'.len; next = record { version = s.version; place = s.place; handle = s.handle; epoch = s.epoch; last = record { 0 = s.last.0 + 1 }; from = b'.resume_from; line = s.line } })))
    is_frame b' p =
        let n : ltb (length out) (length (encode sent)) ≡ false = le-ltb (length out) (length (encode sent)) (omega (arith, p.0, p.1)) in
        record { answer = sym (going_step ∙ rw (n, ← p.0, p.3) refl); area = p.2 ∙ sym (going_area ∙ rw n refl); stays_on = refl }
