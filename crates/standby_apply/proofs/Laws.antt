-- What a change that can be made asks of its operation. Assumes nothing.
use mathlib.Core.Path.{◌≡◌, subst}
use mathlib.Core.Bool.{true}
use mathlib.Core.List.{List}
use Prim.Native.Nat.{ℕ}
use Rattle.model_text.specs.Utf8.{utf8}
use Rattle.model_text.specs.Stamp.{is_stamp, takes_stamp}
use Rattle.model_text.proofs.Formed.{and_r}
use Rattle.model_text.proofs.Laws.{takes_keeps}
use Rattle.model_frame.specs.Writing.{fine_change}
use Rattle.frame_reader.specs.declared.Span.{Span}
use Rattle.frame_reader.specs.Answers.{span_of}
use Rattle.frame_op.specs.declared.Op.{Op}
use Rattle.frame_op.specs.Answers.{op_of}

module _ (b : List ℕ) (o : Op) where
  pub stamp_kept : (v : ℕ) {p : Span} → o ≡ Op.SetCreatedAt p → fine_change v (op_of b o) ≡ true → is_stamp (span_of b p) ≡ true
  stamp_kept v {p} is h = takes_keeps v (span_of b p) (and_r (utf8 (span_of b p)) (takes_stamp v (span_of b p)) (subst (λ (x : Op). fine_change v (op_of b x) ≡ true) is h))
