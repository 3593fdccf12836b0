-- What a call hands up by its bytes and by what was found in the row is what the definition says. Assumes nothing.
use mathlib.Core.Path.{◌≡◌, refl, sym, ap, subst, ◌∙◌}
use mathlib.Core.Bool.{Bool, true, false, cond, ◌&&◌, ◌||◌, true≢false}
use mathlib.Core.List.{List, [], ◌∷◌}
use mathlib.Core.Option.{Option, none, some, map}
use Prim.Native.Nat.{ℕ, zero, suc, ◌≤◌, ◌<◌}
use native.Mathlib.Omega.{arith}
use lib.Dec.{eqb, ltb, leb}
use lib.ListN.{length, get_or, take, get_elem?}
use lib.Seq.{take-length}
use borrow.Author.Tests.{eqb-true, ltb-true, ltb-false}
use Rattle.std.specs.Prelude.{T, Some, None}
use Rattle.std.specs.Prelude as prelude
use Rattle.model_text.specs.Version.{latest}
use Rattle.model_frame.specs.Bytes.{bytes_of, is_bytes}
use Rattle.model_frame.specs.FrameKind
use Rattle.model_frame.specs.Frame.{Part, commit, whole, last_whole, Frame, hello, welcome, bind, batch, ack, nack, bound, checked, Decoded, more, faulty, got}
use Rattle.model_frame.specs.Reading.{decode}
use Rattle.model_frame.specs.Writing.{part_number, body_bytes, encode}
use Rattle.model_frame.proofs.Sound.{Accepted, decode_sound}
use Rattle.model_standby.specs.Answer.{Given, damaged, intact, judged, given, handle_in, reply, refused, done}
use Rattle.model_standby.specs.Answer as the-answer
use Rattle.model_lowest.specs.Lowest.{lowest_of, lowest_at, lowest_for, part_tells, acks_frame, acks, handed_by, handed_up}
use Rattle.model_standby.specs.Row.{find}
use Rattle.model_standby.specs.State.{Bound, Standby, Result, Call, on_frame_held, on_frame, flush, disconnected_from, promote, promote_unchecked}
use Rattle.model_standby.specs.State as state
use Rattle.model_standby.specs.Core.{Core, core_given, core_step}
use Rattle.model_standby.proofs.Factoring.{given_latest}
use Rattle.model_frame.specs.Frame.{Change, AppRecord}
use Rattle.standby_counters.specs.declared.Replica.{Replica}
use Rattle.standby_step.specs.Steps.{has_handle, handle_by, asks, Leaves}
use Rattle.standby_state.specs.Answers.{handing_up}
use Rattle.standby_state.specs.Exact.{HandsUp}
use Rattle.standby_step.specs.Lowest.{call_tells}
use Rattle.standby_state.specs.declared.Answer.{Answer}
use Rattle.standby_state.specs.Answers.{answer_of, frame_by, brief_of, reason_by}
use Rattle.standby_step.specs.Lowest.{byte_tells, bytes_tell, is_acked, value_of, own_lowest}
use Rattle.standby_step.specs.Steps.{is_found}
use Rattle.standby_batch_handle.specs.Handling.{found_of}
use Rattle.standby_segments.specs.Segments.{Holds}
use Rattle.standby_row.specs.declared.lookup.Found.{Found}
use Rattle.standby_row.specs.declared.lookup.Lookup.{Lookup}
use Rattle.standby_row.specs.Row.{record_or_free, own_record}
use Rattle.model_session.specs.Session.{Session}
use Rattle.model_standby.specs.Store.{Place}
use Rattle.frame_fields.specs.Answers.{flight_of}
use Rattle.store_areas.specs.declared.Shape.{Shape}
use Rattle.store_areas.specs.Areas.{allowed, place_at, places_of, used_of}
use Rattle.store_areas.proofs.Lifting.{place_is}
use Rattle.store_areas.proofs.Lifting.{places_length}
use Rattle.store_sessions.specs.Answers.{gives, refuses}
use Rattle.store_lowest.specs.Lowest.{lowest_in}

-- ---- the bytes of a frame

abbrev kind_byte : Frame → ℕ
kind_byte (hello v e node kinds) = FrameKind.hello
kind_byte (welcome e i) = FrameKind.welcome
kind_byte (bind h e lag k) = FrameKind.bind
kind_byte (batch h e n part cs apps) = FrameKind.batch
kind_byte (ack h n) = FrameKind.ack
kind_byte (nack h r) = FrameKind.nack
kind_byte (bound h m) = FrameKind.bound
kind_byte (checked h e i) = FrameKind.checked

kind_stands : (f : Frame) → get_or (encode f) 4 0 ≡ kind_byte f
unfolding encode body_bytes bytes_of
kind_stands (hello v e node kinds) = refl
kind_stands (welcome e i) = refl
kind_stands (bind h e lag k) = refl
kind_stands (batch h e n part cs apps) = refl
kind_stands (ack h n) = refl
kind_stands (nack h r) = refl
kind_stands (bound h m) = refl
kind_stands (checked h e i) = refl

part_stands : (h e n : ℕ) (p : Part) (cs : List _) (apps : List _) → get_or (encode (batch h e n p cs apps)) 25 0 ≡ part_number p
unfolding encode body_bytes bytes_of
part_stands h e n p cs apps = refl

-- a whole frame that was read is what would be written
whole_frame : (version : ℕ) (w : List ℕ) {f : Frame} → T (is_bytes w) → given version w ≡ intact f → w ≡ encode f
unfolding given
whole_frame version w {f} bytes = go (decode version w) refl
  where
    go : (d : Decoded) → decode version w ≡ d → judged (length w) d ≡ intact f → w ≡ encode f
    go more e q = cc
    go (faulty x) e q = cc
    go (got g used) e q = last (eqb used (length w)) refl q
      where
        last : (t : Bool) → eqb used (length w) ≡ t → cond t (intact g) (damaged 26) ≡ intact f → w ≡ encode f
        last false u q = cc
        last true u q =
            let same : g ≡ f = cc in
            sym (take-length w) ∙ ap (λ (n : ℕ). take n w) (sym (eqb-true used (length w) u)) ∙ (decode_sound version w bytes e).same ∙ ap encode same

tells_part : (commits : Bool) (p : Part) → byte_tells commits (part_number p) ≡ part_tells commits p
tells_part true commit = refl
tells_part false commit = refl
tells_part true whole = refl
tells_part false whole = refl
tells_part commits last_whole = refl

abbrev frame_tells : Bool → Frame → Bool
frame_tells commits (hello v e node kinds) = false
frame_tells commits (welcome e i) = false
frame_tells commits (bind h e lag k) = false
frame_tells commits (batch h e n part cs apps) = part_tells commits part
frame_tells commits (ack h n) = false
frame_tells commits (nack h r) = false
frame_tells commits (bound h m) = false
frame_tells commits (checked h e i) = false

written_tells : (commits : Bool) (f : Frame) → bytes_tell commits (encode f) ≡ frame_tells commits f
written_tells commits (hello v e node kinds) = ap (λ (k : ℕ). eqb k 4 && byte_tells commits (get_or (encode (hello v e node kinds)) 25 0)) (kind_stands (hello v e node kinds))
written_tells commits (welcome e i) = ap (λ (k : ℕ). eqb k 4 && byte_tells commits (get_or (encode (welcome e i)) 25 0)) (kind_stands (welcome e i))
written_tells commits (bind h e lag k) = ap (λ (n : ℕ). eqb n 4 && byte_tells commits (get_or (encode (bind h e lag k)) 25 0)) (kind_stands (bind h e lag k))
written_tells commits (batch h e n part cs apps) =
    (λ i. eqb (kind_stands (batch h e n part cs apps) i) 4 && byte_tells commits (part_stands h e n part cs apps i)) ∙ tells_part commits part
written_tells commits (ack h n) = ap (λ (k : ℕ). eqb k 4 && byte_tells commits (get_or (encode (ack h n)) 25 0)) (kind_stands (ack h n))
written_tells commits (nack h r) = ap (λ (k : ℕ). eqb k 4 && byte_tells commits (get_or (encode (nack h r)) 25 0)) (kind_stands (nack h r))
written_tells commits (bound h m) = ap (λ (k : ℕ). eqb k 4 && byte_tells commits (get_or (encode (bound h m)) 25 0)) (kind_stands (bound h m))
written_tells commits (checked h e i) = ap (λ (k : ℕ). eqb k 4 && byte_tells commits (get_or (encode (checked h e i)) 25 0)) (kind_stands (checked h e i))

read_tells : (commits : Bool) (version : ℕ) (w : List ℕ) (f : Frame) → T (is_bytes w) → given version w ≡ intact f → bytes_tell commits w ≡ frame_tells commits f
read_tells commits version w f bytes e = ap (bytes_tell commits) (whole_frame version w bytes e) ∙ written_tells commits f

-- ---- an Ack by its record

acked_frame : (b : List ℕ) (a : Answer) → acks_frame (frame_by b a) ≡ eqb a.kind 5
acked_frame b a = go (eqb a.kind 2) refl
  where
    go : (t : Bool) → eqb a.kind 2 ≡ t → acks_frame (cond t (welcome a.epoch.0 a.incarnation.0) (cond (eqb a.kind 5) (ack a.handle a.commit_no.0) (cond (eqb a.kind 6) (nack a.handle (reason_by a.reason)) (bound a.handle (brief_of b a.summary))))) ≡ eqb a.kind 5
    go true e = ap (λ (k : ℕ). eqb k 5) (sym (eqb-true a.kind 2 e))
    go false e = next (eqb a.kind 5)
      where
        next : (t : Bool) → acks_frame (cond t (ack a.handle a.commit_no.0) (cond (eqb a.kind 6) (nack a.handle (reason_by a.reason)) (bound a.handle (brief_of b a.summary)))) ≡ t
        next true = refl
        next false = last (eqb a.kind 6)
          where
            last : (t : Bool) → acks_frame (cond t (nack a.handle (reason_by a.reason)) (bound a.handle (brief_of b a.summary))) ≡ false
            last true = refl
            last false = refl

acked : (b : List ℕ) (a : Answer) → acks (answer_of b a) ≡ is_acked a
acked b a = go (eqb a.refusal 0)
  where
    go : (t : Bool) → acks (cond t (cond (eqb a.kind 0) done (reply (frame_by b a))) (refused a.refusal)) ≡ t && eqb a.kind 5
    go false = refl
    go true = framed (eqb a.kind 0) refl
      where
        framed : (t : Bool) → eqb a.kind 0 ≡ t → acks (cond t done (reply (frame_by b a))) ≡ eqb a.kind 5
        framed true e = ap (λ (k : ℕ). eqb k 5) (sym (eqb-true a.kind 0 e))
        framed false e = acked_frame b a

-- ---- the session that was found

abbrev lowest_session : Session → ℕ
lowest_session x = lowest_of x.messages

abbrev stored_session : Place → Session
stored_session x = x.stored.session

past_end : {A : Type 0} (l : List A) (i : ℕ) → length l ≤ i → get_elem? l i ≡ none
past_end [] i h = refl
past_end (x ∷ l) zero h = absurd (no h)
  where
    no : suc (length l) ≤ 0 → ⊥
    no h = omega (arith, h)
past_end (x ∷ l) (suc i) h = past_end l i (omega (arith, h))

none_behind : (s : Shape) (w b : List ℕ) (i : ℕ) → used_of w ≤ i → get_elem? (places_of s w b) i ≡ none
none_behind s w b i h = past_end (places_of s w b) i (omega (arith, h, places_length s w b))

abbrev at_place : Shape → List ℕ → List ℕ → ℕ → Bool → Option ℕ
at_place s w b i t = flight_of (value_of (cond t (gives (lowest_of (place_at s w b i).stored.session.messages)) (refuses 25)))

place_lowest : (s : Shape) (w b : List ℕ) (i : ℕ) → allowed s w b ≡ true → flight_of (value_of (lowest_in s w b i)) ≡ lowest_at (places_of s w b) i
place_lowest s w b i on = ap (λ (t : Bool). at_place s w b i (t && ltb i (used_of w))) on ∙ go (ltb i (used_of w)) refl
  where
    go : (t : Bool) → ltb i (used_of w) ≡ t → at_place s w b i t ≡ lowest_at (places_of s w b) i
    go true e = ap (λ (o : Option Place). map lowest_session (map stored_session o)) (sym (place_is s w b i (ltb-true i (used_of w) e)))
    go false e = ap (λ (o : Option Place). map lowest_session (map stored_session o)) (sym (none_behind s w b i (ltb-false i (used_of w) e)))

pub found_lowest : (s : Shape) (w b : List ℕ) (area : Holds) (seen : Lookup) → allowed s w b ≡ true → flight_of (own_lowest s w b seen.own) ≡ lowest_for (found_of latest (is_found seen) (own_record seen) area) (places_of s w b)
found_lowest s w b area seen on = go seen.own
  where
    go : (o : prelude.Option Found) → flight_of (own_lowest s w b o) ≡ lowest_for (found_of latest (prelude.is_some o) (record_or_free o) area) (places_of s w b)
    go None = refl
    go (Some f) = place_lowest s w b f.bound.place on

-- ---- a call

-- the bytes that a call hands in are bytes
abbrev pub BytesOf : Call → Type 0
BytesOf (on_frame_held f) = T (is_bytes f)
BytesOf (on_frame f) = T (is_bytes f)
BytesOf (flush n) = Unit {0}
BytesOf (disconnected_from n) = Unit {0}
BytesOf promote = Unit {0}
BytesOf promote_unchecked = Unit {0}

-- what they are read as
abbrev pub given_of : ℕ → Call → Option Given
given_of version (on_frame_held f) = some (given version f)
given_of version (on_frame f) = some (given version f)
given_of version (flush n) = none
given_of version (disconnected_from n) = none
given_of version promote = none
given_of version promote_unchecked = none

damaged_given : (L : state.Settings) (k : Core) (found : Option Bound) (room : ℕ → Bool) (g : Given) {n : ℕ} → some g ≡ some (damaged n) → (core_given L k found room g).answer ≡ refused n
unfolding core_given
damaged_given L k found room (damaged m) e = let same : m ≡ _ = cc in ap refused same
damaged_given L k found room (intact f) e = cc

-- bytes that are no frame are refused with their number
pub damaged_refused : (L : state.Settings) (k : Core) (found : Option Bound) (room : ℕ → Bool) (call : Call) (n : ℕ) → given_of k.counters.version call ≡ some (damaged n) → (core_step L k found room call).answer ≡ refused n
unfolding core_step
damaged_refused L k found room (on_frame_held w) n e = damaged_given L k found room (given k.counters.version w) e
damaged_refused L k found room (on_frame w) n e = damaged_given L k found room (given k.counters.version w) e
damaged_refused L k found room (flush m) n e = cc
damaged_refused L k found room (disconnected_from m) n e = cc
damaged_refused L k found room promote n e = cc
damaged_refused L k found room promote_unchecked n e = cc

-- a Batch's call looks its handle up
pub record Looks (call : Call) (h : ℕ) : Type 0 where
  pub asked : asks call ≡ true
  pub named : handle_by call ≡ h

looks_by : (version : ℕ) (w : List ℕ) {h e n : ℕ} {p : Part} {cs : List Change} {apps : List AppRecord} → some (given version w) ≡ some (intact (batch h e n p cs apps)) → given latest w ≡ intact (batch h e n p cs apps)
looks_by version w q = given_latest version w cc

pub batch_looks : (version : ℕ) (call : Call) {h e n : ℕ} {p : Part} {cs : List Change} {apps : List AppRecord} → given_of version call ≡ some (intact (batch h e n p cs apps)) → Looks call h
batch_looks version (on_frame_held w) q = let g = looks_by version w q in record { asked = ap has_handle g; named = ap handle_in g }
batch_looks version (on_frame w) q = let g = looks_by version w q in record { asked = ap has_handle g; named = ap handle_in g }
batch_looks version (flush m) q = cc
batch_looks version (disconnected_from m) q = cc
batch_looks version promote q = cc
batch_looks version promote_unchecked q = cc

module _ (commits : Bool) (s : Shape) (w b : List ℕ) (area : Holds) (seen : Lookup) (a : Answer) (st : Standby) (r : Result) (version : ℕ) (on : allowed s w b ≡ true) (answer : r.answer ≡ answer_of b a) (places : r.state.places ≡ places_of s w b) where
  abbrev Own : prelude.Option ℕ
  Own = own_lowest s w b seen.own

  abbrev Looked : Option Bound
  Looked = found_of latest (is_found seen) (own_record seen) area

  no_value : (t : Bool) → flight_of (cond (t && false) Own None) ≡ none
  no_value true = refl
  no_value false = refl

  some_value : (t : Bool) → flight_of (cond t Own None) ≡ cond t (flight_of Own) none
  some_value true = refl
  some_value false = refl

  -- a frame that hands nothing up, by its bytes
  silent : (f : List ℕ) (g : Frame) → T (is_bytes f) → given version f ≡ intact g → frame_tells commits g ≡ false → flight_of (cond (is_acked a && bytes_tell commits f) Own None) ≡ none
  silent f g bytes e off = ap (λ (t : Bool). flight_of (cond (is_acked a && t) Own None)) (read_tells commits version f g bytes e ∙ off) ∙ no_value (is_acked a)

  by_frame : (f : List ℕ) → T (is_bytes f) → ((n : ℕ) → some (given version f) ≡ some (damaged n) → answer_of b a ≡ refused n)
      → ((h e n : ℕ) (p : Part) (cs : List Change) (apps : List AppRecord) → some (given version f) ≡ some (intact (batch h e n p cs apps)) → find h st.handles ≡ Looked)
      → flight_of (cond (is_acked a && bytes_tell commits f) Own None) ≡ handed_by commits st r (given version f)
  by_frame f bytes bad looked = go (given version f) refl
    where
      go : (g : Given) → given version f ≡ g → flight_of (cond (is_acked a && bytes_tell commits f) Own None) ≡ handed_by commits st r g
      go (damaged n) e = ap (λ (t : Bool). flight_of (cond (t && bytes_tell commits f) Own None)) (sym (acked b a) ∙ ap acks (bad n (ap some e)))
      go (intact (hello v x node kinds)) e = silent f (hello v x node kinds) bytes e refl
      go (intact (welcome x i)) e = silent f (welcome x i) bytes e refl
      go (intact (bind h x lag k)) e = silent f (bind h x lag k) bytes e refl
      go (intact (batch h x n p cs apps)) e =
          ap (λ (t : Bool). flight_of (cond (is_acked a && t) Own None)) (read_tells commits version f (batch h x n p cs apps) bytes e)
          ∙ some_value (is_acked a && part_tells commits p)
          ∙ (λ i. cond ((sym (acked b a) ∙ ap acks (sym answer)) i && part_tells commits p) (found_lowest s w b area seen on i) none)
          ∙ (λ i. cond (acks r.answer && part_tells commits p) (lowest_for (sym (looked h x n p cs apps (ap some e)) i) (sym places i)) none)
      go (intact (ack h n)) e = silent f (ack h n) bytes e refl
      go (intact (nack h x)) e = silent f (nack h x) bytes e refl
      go (intact (bound h m)) e = silent f (bound h m) bytes e refl
      go (intact (checked h x i)) e = silent f (checked h x i) bytes e refl

  pub told_call : st.counters.version ≡ version → (call : Call) → BytesOf call → ((n : ℕ) → given_of version call ≡ some (damaged n) → answer_of b a ≡ refused n)
      → ((h e n : ℕ) (p : Part) (cs : List Change) (apps : List AppRecord) → given_of version call ≡ some (intact (batch h e n p cs apps)) → find h st.handles ≡ Looked)
      → flight_of (cond (is_acked a && call_tells commits call) Own None) ≡ handed_up commits st call r
  told_call v (on_frame_held f) bytes bad looked = by_frame f bytes bad looked ∙ ap (λ (k : ℕ). handed_by commits st r (given k f)) (sym v)
  told_call v (on_frame f) bytes bad looked = by_frame f bytes bad looked ∙ ap (λ (k : ℕ). handed_by commits st r (given k f)) (sym v)
  told_call v (flush n) bytes bad looked = no_value (is_acked a)
  told_call v (disconnected_from n) bytes bad looked = no_value (is_acked a)
  told_call v promote bytes bad looked = no_value (is_acked a)
  told_call v promote_unchecked bytes bad looked = no_value (is_acked a)

-- ---- the record

pub hands_up : (o : prelude.Option ℕ) (a : Answer) {t : Option ℕ} → flight_of o ≡ t → HandsUp t (handing_up o a)
hands_up o a e = subst (λ (t : Option ℕ). HandsUp t (handing_up o a)) e (go o)
  where
    go : (o : prelude.Option ℕ) → HandsUp (flight_of o) (handing_up o a)
    go None = record { flag = refl; number = refl }
    go (Some n) = record { flag = refl; number = refl }

-- what a call leaves goes by the frame and the refusal alone
pub leaves_told : (s : Shape) (c : Replica) (p : ℕ) (call : Call) (w w' b b' : List ℕ) (o : prelude.Option ℕ) (a : Answer) → Leaves s c p call w w' b b' a → Leaves s c p call w w' b b' (handing_up o a)
leaves_told s c p (on_frame_held f) w w' b b' o a l = l
leaves_told s c p (on_frame f) w w' b b' o a l = l
leaves_told s c p (flush n) w w' b b' o a l = l
leaves_told s c p (disconnected_from n) w w' b b' o a l = l
leaves_told s c p promote w w' b b' o a l = l
leaves_told s c p promote_unchecked w w' b b' o a l = l
