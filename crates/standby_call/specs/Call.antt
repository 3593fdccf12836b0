-- The model's call that a call by value stands for, with the frame that it carries. Assumes nothing.
use Rattle.std.specs.Prelude.{ℕ, List}
use Rattle.model_standby.specs.State.{on_frame_held, on_frame, flush, disconnected_from, promote, promote_unchecked}
use Rattle.model_standby.specs.State as state
use Rattle.standby_call.specs.declared.Call.{Call}

abbrev pub call_of : Call → List ℕ → state.Call
call_of Call.OnFrameHeld f = on_frame_held f
call_of Call.OnFrame f = on_frame f
call_of (Call.Flush n) f = flush n
call_of (Call.DisconnectedFrom n) f = disconnected_from n
call_of Call.Promote f = promote
call_of Call.PromoteUnchecked f = promote_unchecked
