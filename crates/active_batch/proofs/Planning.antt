-- Planning a batch: its parts are those of the cut. Assumes nothing.
use mathlib.Core.Path.{◌≡◌, refl, sym, ap, ◌∙◌}
use mathlib.Core.List.{List, [], ◌∷◌, ◌++◌}
use Prim.Native.Nat.{ℕ, zero, suc, ◌+◌, ◌≤◌, max}
use native.Mathlib.Omega.{arith}
use lib.ListN.{length, length-append}
use lib.Dec.{eqb}
use borrow.Author.Tests.{eq-eqb, ne_eqb}
use Rattle.model_frame.specs.Frame.{Change}
use Rattle.model_frame.specs.Parse.{is_empty}
use Rattle.model_frame.proofs.Runs.{sizes_append}
use Rattle.model_session.specs.Session.{Session, Msg}
use Rattle.model_session.specs.Summary.{numbered_from}
use Rattle.model_session.specs.Sender.{opening, cut_batch, cut_from, messages_from}
use Rattle.store_log.specs.Log.{log_of, rest_of, From}
use Rattle.store_log.specs.declared.LogPosition.{LogPosition}
use Rattle.store_log.specs.declared.log.Log.{Log}
use Rattle.active_messages.specs.declared.Cut.{Cut}
use Rattle.active_messages.specs.declared.Extent.{Extent}
use Rattle.active_messages.specs.Cut.{taken, closing_after, goes_from, Measured}
use Rattle.active_messages.proofs.Counting.{rest_length}
use Rattle.active_messages.proofs.Numbers.{ascends}
use Rattle.active_messages.proofs.Cutting.{cut_is, from_same}
use Rattle.active_header.specs.declared.header.Header.{Header}
use Rattle.active_batch.specs.declared.Plan.{Plan}
use Rattle.active_header.specs.Ends.{Spans, opening_of, ending_of}
use Rattle.active_batch.specs.Batch.{session_with, messages_left, planned_changes, Planned, resume_from}

empty_is : (n : ℕ) (ms : List Msg) → length ms ≡ n → eqb n 0 ≡ is_empty ms
empty_is n [] e = eq-eqb n 0 (sym e)
empty_is n (m ∷ ms) e = ne_eqb n 0 (λ z. never z)
  where
    never : n ≡ 0 → ⊥
    never z = omega (arith, e, z)

pub spans_append : {cs ds : List Change} {c s d t : ℕ} → Spans cs c s → Spans ds d t → Spans (cs ++ ds) (c + d) (s + t)
spans_append {cs} {ds} p q = record { counts = omega (arith, p.counts, q.counts, length-append cs ds); sums = omega (arith, p.sums, q.sums, sizes_append cs ds) }

pub spans_at : {cs : List Change} {c s d t : ℕ} → Spans cs c s → c ≡ d → s ≡ t → Spans cs d t
spans_at p e f = record { counts = sym e ∙ p.counts; sums = sym f ∙ p.sums }

module _ (limit : ℕ) (h : Header) (log : Log) (from : ℕ) where
  abbrev C : ℕ
  C = length log.bytes.now

  abbrev pub messages : List Msg
  messages = log_of C log.max log.next log.words.now log.bytes.now

  pub planned : (position : LogPosition) (next : ℕ) (cut : Cut) (o e : Extent) → C ≤ 33554432 → log.max ≤ 65536 → next ≡ max from 1
      → From C log.max log.next next log.words.now log.bytes.now position.left position.dist
      → Measured limit C log.max log.next log.words.now log.bytes.now position.left position.dist next cut.position.left cut.position.dist cut.next cut.extent.count cut.extent.size
      → Spans (opening_of h.stamp.now from) o.count o.size → (o.count ≤ 2) × (o.size ≤ 38)
      → Spans (ending_of h (eqb cut.position.left 0) cut.next) e.count e.size → (e.count ≤ 3) × (e.size ≤ 95)
      → Planned limit h log from
      (record {
        position = position;
        next = next;
        resume_from = cut.next;
        last = eqb cut.position.left 0;
        extent = record { count = o.count + cut.extent.count + e.count; size = o.size + cut.extent.size + e.size };
      })
  planned position next cut o e hc hm en f m so ob se eb =
      let left' = cut.position.left in
      record {
        stands = f.stands;
        starts = f.is ∙ ap (λ (n : ℕ). numbered_from n messages) en;
        begins = en;
        goes_on = m.after;
        is_last = empty_is left' (rest_of C log.max log.next log.words.now log.bytes.now left') (rest_length C log.max log.next log.words.now log.bytes.now left' cut.position.dist m.stands) ∙ ap is_empty m.rest;
        spans = spans_at (spans_append so (spans_append {cs = taken limit 0 next (messages_left limit h log position)} (record { counts = m.counts; sums = m.spans }) se)) (omega arith) (omega arith);
        few = omega (arith, m.few, f.stands.few, ob.0, eb.0);
        small = omega (arith, m.small, f.stands.few, f.stands.room, ob.1, eb.1);
      }

  -- the plan is the cut
  abbrev a : Session
  a = session_with h messages

  open_is : (n : ℕ) → opening limit a n ≡ opening_of h.stamp.now n
  open_is zero = refl
  open_is (suc n) = refl

  end_is : (next : ℕ) (ms : List Msg) → closing_after a next ms ≡ ending_of h (is_empty ms) next
  end_is next [] = refl
  end_is next (m ∷ ms) = refl

  goes_is : (next : ℕ) (ms : List Msg) → goes_from next ms ≡ resume_from next (is_empty ms)
  goes_is next [] = refl
  goes_is next (m ∷ ms) = refl

  pub cut_planned : (p : Plan) → Planned limit h log from p → cut_from limit a from ≡ record { changes = planned_changes limit h log from p; goes_on = resume_from p.resume_from p.last }
  cut_planned p q =
      let ms : List Msg = messages_left limit h log p.position in
      let e : messages_from (max from 1) a.messages ≡ ms = from_same (max from 1) 1 messages (ascends C log.max log.next log.words.now log.bytes.now) ∙ sym q.starts in
      ap (cut_batch limit a (opening limit a from) 0 (max from 1)) e
      ∙ cut_is limit a (opening limit a from) 0 (max from 1) ms
      ∙ rw (← q.begins, open_is from, end_is, goes_is, ← q.goes_on, ← q.is_last)
