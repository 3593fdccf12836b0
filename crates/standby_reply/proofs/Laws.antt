-- What `write` has of the frame that was answered, if there is one. Assumes nothing.
use mathlib.Core.Path.{◌≡◌, refl, subst}
use mathlib.Core.List.{List}
use mathlib.Core.Option.{Option}
use Prim.Native.Nat.{ℕ}
use Rattle.std.specs.Prelude as prelude
use Rattle.std.specs.Prelude.{Some, None, Ok, Err, ok_or}
use Rattle.model_frame.specs.Frame as the_frame
use Rattle.model_frame.specs.Writing.{write_outcome}
use Rattle.frame.specs.declared.Frame.{Frame}
use Rattle.frame.specs.Answers.{frame_in}
use Rattle.frame_writer.specs.Encoding.{Encoded}
use Rattle.frame_writer.specs.declared.EncodeError.{EncodeError}
use Rattle.standby_state.specs.declared.Answer.{Answer}
use Rattle.standby_reply.specs.Replies.{frame_for, Frames}

pub no_frame : {a : Answer} (v : ℕ) (b before : List ℕ) (r : prelude.Option Frame) (e : EncodeError) → Frames a r → Err e ≡ ok_or r EncodeError.Unreadable → Encoded v (frame_for b a) before before (Err e)
unfolding write_outcome
no_frame v b before (Some f) e h q = cc
no_frame v b before None e h q =
    let unreadable : e ≡ EncodeError.Unreadable = cc in
    subst (λ (o : Option the_frame.Frame). Encoded v o before before (Err e)) (h.is v b) (rw unreadable (record { answer = refl; area = refl }))

pub its_frame : {a : Answer} (v : ℕ) (b : List ℕ) (r : prelude.Option Frame) (f : Frame) → Frames a r → Ok f ≡ ok_or r EncodeError.Unreadable → frame_in v b f ≡ frame_for b a
its_frame v b (Some x) f h q = cc (h.is v b)
its_frame v b None f h q = cc
