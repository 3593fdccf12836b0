-- The record of each answer is exact as it is made. Assumes nothing.
use Prim.Native.Nat.{ℕ}
use mathlib.Core.Path.{◌≡◌, refl, ap}
use mathlib.Core.Bool.{Bool, true, false, cond}
use mathlib.Core.List.{List}
use lib.Dec.{eqb}
use borrow.Author.Tests.{eqb-true}
use Rattle.model_frame.specs.Frame.{Reason, stale_epoch, diverged, lag_too_great, restarted, Frame, hello, welcome, bind, batch, ack, nack, bound, checked}
use Rattle.model_frame.specs.Writing.{reason_number}
use Rattle.frame_fields.specs.declared.CommitNumber.{CommitNumber}
use Rattle.frame_fields.specs.declared.Epoch.{Epoch}
use Rattle.frame_fields.specs.declared.Incarnation.{Incarnation}
use Rattle.model_standby.specs.Answer.{reply, refused, done}
use Rattle.model_standby.specs.Answer as the-answer
use Rattle.standby_state.specs.declared.BoundSummary.{BoundSummary}
use Rattle.standby_state.specs.declared.Answer.{Answer}
use Rattle.standby_state.specs.Answers.{answer_of, plain, is_refused, is_done, is_welcome, is_ack, is_nack, is_bound}
use Rattle.standby_state.specs.Exact.{FrameRecord, RecordOf, Exact, ExactSummary}

pub exact_done : (b : List ℕ) → Exact b is_done
exact_done b = record { is = refl }

pub exact_refused : (b : List ℕ) (n : ℕ) → Exact b (is_refused n)
exact_refused b n = record { is = go (eqb n 0) refl }
  where
    go : (t : Bool) → eqb n 0 ≡ t → RecordOf b (cond t done (refused n)) (is_refused n)
    go true e = ap is_refused (eqb-true n 0 e)
    go false e = refl

pub exact_welcome : (b : List ℕ) (e : Epoch) (i : Incarnation) → Exact b (is_welcome e i)
exact_welcome b e i = record { is = refl }

pub exact_ack : (b : List ℕ) (h : ℕ) (n : CommitNumber) → Exact b (is_ack h n)
exact_ack b h n = record { is = refl }

pub exact_nack : (b : List ℕ) (h : ℕ) (r : Reason) → Exact b (is_nack h (reason_number r))
exact_nack b h stale_epoch = record { is = refl }
exact_nack b h diverged = record { is = refl }
exact_nack b h lag_too_great = record { is = refl }
exact_nack b h restarted = record { is = refl }

pub exact_bound : (b : List ℕ) (h : ℕ) (m : BoundSummary) → ExactSummary b m → Exact b (is_bound h m)
exact_bound b h m s = record { is = record { is = ap (is_bound h) s.is; stamp = s.stamp; marks = s.marks } }

-- ---- with no lowest message on hand

frame_plain : (b : List ℕ) (f : Frame) (a : Answer) → FrameRecord b f a → FrameRecord b f (plain a)
frame_plain b (hello v e node kinds) a r = r
frame_plain b (welcome e i) a r = ap plain r
frame_plain b (bind h e lag k) a r = r
frame_plain b (batch h e n part cs apps) a r = r
frame_plain b (ack h n) a r = ap plain r
frame_plain b (nack h x) a r = ap plain r
frame_plain b (bound h m) a r = record { is = ap plain r.is; stamp = r.stamp; marks = r.marks }
frame_plain b (checked h e i) a r = r

record_plain : (b : List ℕ) (x : the-answer.Answer) (a : Answer) → RecordOf b x a → RecordOf b x (plain a)
record_plain b (reply f) a r = frame_plain b f a r
record_plain b (refused n) a r = ap plain r
record_plain b done a r = ap plain r

pub exact_plain : (b : List ℕ) (a : Answer) → Exact b a → Exact b (plain a)
exact_plain b a e = record { is = record_plain b (answer_of b a) a e.is }
