-- What a frame writes into the hold areas: a Whole or LastWhole that passes 13 to 18 and the commit number writes its changes
-- after those held, in frame form, and no other byte, also if its outgoing numbers then give Diverged.
-- The tests are those of Standby.antt, said the other way round: a Whole writes just if it is accepted (`whole_writes`), and a LastWhole that is accepted
-- writes (`last_writes`, both in proofs/Holding).
-- Assumes nothing.
use Rattle.std.specs.Prelude.{ℕ, List, ◌++◌, Bool, cond, not, ◌&&◌, ◌||◌, ltb}
use Rattle.std.proofs.Math.Option.{Option, none, some}
use Rattle.model_frame.specs.Frame.{Change, Part, commit, whole, last_whole, Frame, hello, welcome, bind, batch, ack, nack, bound, checked}
use Rattle.model_frame.specs.Parse.{is_empty, run_bytes}
use Rattle.model_frame.specs.Writing.{change_bytes}
use Rattle.model_frame.specs.Sizes.{sizes}
use Rattle.model_standby.specs.Answer.{Given, damaged, intact}
use Rattle.model_standby.specs.State.{Settings, Counters, Bound}
use Rattle.model_standby.specs.Standby.{follows, starts_with_reset, raised, max_whole}

-- these bytes, at this offset of the handle's hold area
pub record HoldWrite : Type 0 where
  pub handle : ℕ
  pub offset : ℕ
  pub bytes : List ℕ

-- changes as a hold area has them
abbrev pub held_bytes : List Change → List ℕ
held_bytes cs = run_bytes change_bytes cs

module _ (L : Settings) where
  -- past the commit number and 16 to 18
  abbrev pub held_passes : Bound → ℕ → List Change → Bool
  held_passes b n cs =
      follows b n
      && (not (is_empty b.held && not (starts_with_reset cs))
      && (not (ltb max_whole (raised b cs))
      && not (ltb L.room (sizes (b.held ++ cs)))))

  -- past 14
  abbrev pub writes_at : ℕ → Option Bound → ℕ → List Change → Option HoldWrite
  writes_at h none n cs = none
  writes_at h (some b) n cs = cond (held_passes b n cs) (some (record { handle = h; offset = sizes b.held; bytes = held_bytes cs })) none

  abbrev pub writes_part : ℕ → Option Bound → ℕ → Part → List Change → Option HoldWrite
  writes_part h o n commit cs = none
  writes_part h o n whole cs = writes_at h o n cs
  writes_part h o n last_whole cs = writes_at h o n cs

  -- past 13 and the epoch
  abbrev pub writes_frame : Counters → Option Bound → Frame → Option HoldWrite
  writes_frame c found (hello v e node kinds) = none
  writes_frame c found (welcome e i) = none
  writes_frame c found (bind h e lag k) = none
  writes_frame c found (batch h e n p cs apps) = cond (not (is_empty apps) || ltb e c.epoch) none (writes_part h found n p cs)
  writes_frame c found (ack h n) = none
  writes_frame c found (nack h r) = none
  writes_frame c found (bound h m) = none
  writes_frame c found (checked h e i) = none

  -- with what is found for the frame's handle; by on_frame_held or on_frame, other calls write nothing there
  unfoldable pub writes : Counters → Option Bound → Given → Option HoldWrite
  writes c found (damaged n) = none
  writes c found (intact f) = cond c.promoted none (writes_frame c found f)
