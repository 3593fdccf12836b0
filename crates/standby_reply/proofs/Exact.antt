-- The record of a frame that was answered has that frame. Assumes nothing.
use mathlib.Core.Path.{◌≡◌, sym, ap, subst, ◌∙◌}
use mathlib.Core.Bool.{Bool, true, ◌&&◌}
use mathlib.Core.List.{List}
use mathlib.Core.Option.{Option, none, some}
use borrow.Author.Tests.{le-leb}
use Prim.Native.Nat.{ℕ, ◌+◌}
use lib.ListN.{length}
use Rattle.model_frame.specs.Frame.{stale_epoch, diverged, lag_too_great, restarted, Frame, hello, welcome, bind, batch, ack, nack, bound, checked}
use Rattle.frame_writer.specs.Encoding.{span_fits, frame_if}
use Rattle.model_standby.specs.Answer.{reply, refused, done}
use Rattle.model_standby.specs.Answer as the-answer
use Rattle.standby_state.specs.declared.BoundSummary.{BoundSummary}
use Rattle.standby_state.specs.declared.Answer.{Answer}
use Rattle.standby_state.specs.Answers.{answer_of, brief_of}
use Rattle.standby_state.specs.Exact.{summary_at, FrameRecord, RecordOf, Exact}
use Rattle.standby_reply.specs.Replies.{frame_for}

abbrev said : the-answer.Answer → Option Frame
said (reply f) = some f
said (refused n) = none
said done = none

module _ (b : List ℕ) (a : Answer) where
  of_frame : (f : Frame) → FrameRecord b f a → answer_of b a ≡ reply f → frame_for b a ≡ some f
  of_frame (hello v e node kinds) r q = absurd r
  of_frame (welcome e i) r q = ap (frame_for b) r
  of_frame (bind h e lag k) r q = absurd r
  of_frame (batch h e n part cs apps) r q = absurd r
  of_frame (ack h n) r q = ap (frame_for b) r
  of_frame (nack h stale_epoch) r q = ap (frame_for b) r
  of_frame (nack h diverged) r q = ap (frame_for b) r
  of_frame (nack h lag_too_great) r q = ap (frame_for b) r
  of_frame (nack h restarted) r q = ap (frame_for b) r
  of_frame (bound h m) r q =
      let s : BoundSummary = summary_at a.summary.created_at a.summary.marks m in
      let both-lie : (span_fits b a.summary.created_at && span_fits b a.summary.marks) ≡ true =
      (λ j. le-leb (a.summary.created_at.at + a.summary.created_at.len) (length b) r.stamp j && le-leb (a.summary.marks.at + a.summary.marks.len) (length b) r.marks j) in
      let same : some (bound h (brief_of b s)) ≡ some (bound h m) = ap said (sym (ap (answer_of b) r.is) ∙ q) in
      ap (frame_for b) r.is ∙ ap (λ (t : Bool). frame_if t (bound h (brief_of b s))) both-lie ∙ same
  of_frame (checked h e i) r q = absurd r

  pub exact_frame : Exact b a → {f : Frame} → answer_of b a ≡ reply f → frame_for b a ≡ some f
  exact_frame x {f} q = of_frame f (subst (λ (y : the-answer.Answer). RecordOf b y a) q x.is) q
