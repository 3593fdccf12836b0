-- What was read of a frame, and what its kind says of it. Assumes nothing.
use Prim.Native.Nat.{ℕ, ◌≤◌}
use mathlib.Core.Path.{◌≡◌, refl, sym, ap, subst, ◌∙◌}
use mathlib.Core.Bool.{Bool, true, false, cond, not, ◌&&◌}
use mathlib.Core.List.{List}
use mathlib.Core.Option.{Option, none}
use lib.ListN.{length, take}
use lib.Seq.{take-length}
use lib.Dec.{eqb, leb, T}
use borrow.Author.Tests.{ne_eqb, eq-eqb, leb-true}
use Rattle.base_laws.proofs.Lists.{both}
use Rattle.model_text.specs.Printable.{is_printable, is_key}
use Rattle.model_text.specs.Version.{latest}
use Rattle.model_frame.specs.Bytes.{is_bytes}
use Rattle.model_frame.specs.Frame.{Key, Fault, too_long, truncated, unknown, bad_text, bad_session, bad_timestamp, bad_marks, fault_number, hello, welcome, bind, batch, ack, nack, bound, checked}
use Rattle.model_frame.specs.Frame as the_frame
use Rattle.model_frame.specs.Parse.{is_empty}
use Rattle.model_frame.specs.Reading.{decode}
use Rattle.model_frame.specs.Writing.{fine, fine_key, Writable}
use Rattle.model_text.specs.Utf8.{utf8}
use Rattle.model_frame.proofs.Sound.{decode_sound}
use Rattle.model_frame.proofs.Wider.{decode_wider}
use Rattle.frame_reader.specs.declared.FrameError.{FrameError}
use Rattle.std.specs.Prelude as the_option
use Rattle.std.specs.Prelude.{Result, Ok, Err, Some, None}
use Rattle.frame_reader.specs.Answers.{fault_of}
use Rattle.frame.specs.declared.Frame.{Frame}
use Rattle.frame_fields.specs.declared.Batch.{Batch}
use Rattle.frame.specs.Answers.{frame_of, reading_of, readable}
use Rattle.frame.proofs.Latest.{frame_latest}
use Rattle.model_standby.specs.Answer.{damaged, intact, judged, given}
use Rattle.model_standby.specs.State.{Bound, Counters}
use Rattle.model_standby.specs.State as state
use Rattle.model_standby.specs.Standby.{due}
use Rattle.model_standby.specs.Hold.{writes_frame}
use Rattle.standby_bind.specs.Binding.{Short}
use Rattle.standby_control.specs.Others.{Fit}

-- ---- a reader's number is none but its own

pub number_some : (e : Fault) → eqb (fault_number e) 0 ≡ false
number_some (too_long n) = refl
number_some truncated = refl
number_some (unknown f n) = refl
number_some bad_text = refl
number_some bad_session = refl
number_some bad_timestamp = refl
number_some bad_marks = refl

-- ---- what was handed in

module _ (version : ℕ) (w : List ℕ) where
  given_as : (d : Result (the_option.Option (Frame × ℕ)) FrameError) → reading_of version w d ≡ decode version w → given version w ≡ judged (length w) (reading_of version w d)
  unfolding given
  given_as d read = sym (ap (judged (length w)) read)

  pub given_bad : (e : FrameError) → reading_of version w (Err e) ≡ decode version w → given version w ≡ damaged (fault_number (fault_of e))
  given_bad e = given_as (Err e)

  pub given_more : reading_of version w (Ok None) ≡ decode version w → given version w ≡ damaged 26
  given_more = given_as (Ok None)

  module _ (f : Frame) (n : ℕ) (read : reading_of version w (Ok (Some (f, n))) ≡ decode version w) where
    pub given_short : (n ≡ length w → ⊥) → given version w ≡ damaged 26
    given_short off = given_as (Ok (Some (f, n))) read ∙ ap (λ (t : Bool). cond t (intact (frame_of version (take n w) f)) (damaged 26)) (ne_eqb n (length w) off)

    all : n ≡ length w → take n w ≡ w
    all is = ap (λ (k : ℕ). take k w) is ∙ take-length w

    -- the frame is said as the latest version reads it
    pub given_whole : readable version w f ≡ true → n ≡ length w → given version w ≡ intact (frame_of latest w f)
    given_whole stands is =
        given_as (Ok (Some (f, n))) read ∙ ap (λ (t : Bool). cond t (intact (frame_of version (take n w) f)) (damaged 26)) (eq-eqb n (length w) is) ∙ ap (λ (b : List ℕ). intact (frame_of version b f)) (all is)
        ∙ ap intact (frame_latest version w f stands)

    pub read_writable : readable version w f ≡ true → T (is_bytes w) → n ≡ length w → Writable latest (frame_of latest w f)
    read_writable stands t is =
        subst (Writable latest) (frame_latest version w f stands)
        (subst (λ (b : List ℕ). Writable latest (frame_of version b f)) (all is) (decode_sound latest w t (decode_wider version w (sym read))).writable)

-- ---- frames that are no Batch

printable_short : (lo hi : ℕ) (s : List ℕ) → is_printable lo hi s ≡ true → length s ≤ hi
unfolding is_printable
printable_short lo hi s e = leb-true (length s) hi (both (leb (length s) hi) _ (both (leb lo (length s)) _ e).1).0

key_short : (k : Key) → fine_key k ≡ true → Short k
unfolding fine_key is_key
key_short k e =
    let a = (both (utf8 k.begin) _ e).1 in
    let b = (both (utf8 k.sender) _ a).1 in
    let c = (both (utf8 k.target) _ b).1 in
    let d = (both (utf8 k.suffix) _ c).1 in
    let B = is_printable 1 32 k.begin in
    let S = is_printable 1 32 k.sender in
    let G = is_printable 1 32 k.target in
    let r = both (B && S && G) (is_printable 0 32 k.suffix) d in
    let q = both (B && S) G r.0 in
    let p = both B S q.0 in
    record { begin = printable_short 1 32 k.begin p.0; sender = printable_short 1 32 k.sender p.1; target = printable_short 1 32 k.target q.1; suffix = printable_short 0 32 k.suffix r.1 }

pub fit_of : (b : List ℕ) (f : Frame) → ((x : Batch) → f ≡ Frame.Batch x → ⊥) → Writable latest (frame_of latest b f) → Fit (frame_of latest b f)
unfolding fine
fit_of b (Frame.Hello v e node ks) h p = tt
fit_of b (Frame.Welcome e i) h p = tt
fit_of b (Frame.Bind x e lag k) h p = key_short _ p.texts
fit_of b (Frame.Bound x m) h p = tt
fit_of b (Frame.Batch x) h p = absurd (h x refl)
fit_of b (Frame.Ack x n) h p = tt
fit_of b (Frame.Nack x r) h p = tt
fit_of b (Frame.Checked x e i) h p = tt

pub due_other : (pending : List (ℕ × ℕ)) (f : the_frame.Frame) → Fit f → not (is_empty pending) ≡ due pending f
due_other pending (hello v e node kinds) p = refl
due_other pending (welcome e i) p = refl
due_other pending (bind h e lag k) p = refl
due_other pending (batch h e n part cs apps) p = absurd p
due_other pending (ack h n) p = refl
due_other pending (nack h r) p = refl
due_other pending (bound h m) p = refl
due_other pending (checked h e i) p = refl

pub writes_other : (L : state.Settings) (c : Counters) (o : Option Bound) (f : the_frame.Frame) → Fit f → writes_frame L c o f ≡ none
writes_other L c o (hello v e node kinds) p = refl
writes_other L c o (welcome e i) p = refl
writes_other L c o (bind h e lag k) p = refl
writes_other L c o (batch h e n part cs apps) p = absurd p
writes_other L c o (ack h n) p = refl
writes_other L c o (nack h r) p = refl
writes_other L c o (bound h m) p = refl
writes_other L c o (checked h e i) p = refl
