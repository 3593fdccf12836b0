-- WHAT JOINS DEMAND 3 TO THE ENTRY POINTS. A step of its lists (`Calls`), and a call of a sending (`SendsWhole`), is what the contract that the called
-- function of crate `replica` or `active` has gives of the call: for all arguments, results and areas at exit, in every model in which the contract
-- may be read. And no contract asks anything of its caller. The contracts themselves are named here, so a weaker `ensures` or a `requires` in
-- crates/replica/src/lib.rt or crates/active/src/lib.rt breaks this. Assumes nothing.
use base.Logic.{ent, emp}
use contract.Monad.{fact}
use contract.Lifetimes.{Lfts}
use denote.Triple.Clauses.{AtExit}
use borrow.Fn.World.{World, Pr, ArgsD, ResD}
use Rattle.model_standby.specs.State.{on_frame_held, on_frame, flush, disconnected_from}
use Rattle.standby_segments.specs.Segments.{hold_areas}
use Rattle.replica.specs.contracts.on_frame_held as on-frame-held
use Rattle.replica.specs.contracts.on_frame as on-frame
use Rattle.replica.specs.contracts.flush as flush-call
use Rattle.replica.specs.contracts.disconnected_from as disconnected-from
use Rattle.active.specs.Whole.{limit_of, Begins, SendsWhole}
use Rattle.active.specs.contracts.Sending.begin as begin-call
use Rattle.active.specs.contracts.Sending.send_whole as send_whole
use Rattle.theorem_whole_copy.specs.Demand.{Calls}

-- whoever has P knows the plain fact φ; and P is had for nothing
abbrev pub Gives : (m : World) → Pr m → Type 0 → Type 1
Gives m P φ = ent m.𝓤 P (fact m.𝓤 φ)

abbrev pub AsksNothing : (m : World) → Pr m → Type 1
AsksNothing m P = ent m.𝓤 (emp m.𝓤) P

pub record Joined (m : World) : Type 2 where
  pub on_frame_held_gives :
      (κs : Lfts (on-frame-held.signature).lifetimes) (a : ArgsD on-frame-held.signature κs) (r : ResD on-frame-held.signature κs) (e : AtExit on-frame-held.ended κs) →
      Gives m ((on-frame-held.clauses m.𝓛 m.𝓜.mem m.𝓡.run κs a).ensures tt r e)
      (Calls a.1.1.1.1.1.1.1.0 (on_frame_held a.1.1.1.1.1.1.0.now)
      (record { counters = a.0.now; row = a.1.0.now; words = a.1.1.0.now; bytes = a.1.1.1.0.now; holds = hold_areas a.1.1.1.1.0.now a.1.1.1.1.1.0.now })
      (record { counters = e.0.now; row = e.1.0.now; words = e.1.1.0.now; bytes = e.1.1.1.0.now; holds = hold_areas e.1.1.1.1.0.now e.1.1.1.1.1.0.now }) r)
  pub on_frame_held_asks_nothing :
      (κs : Lfts (on-frame-held.signature).lifetimes) (a : ArgsD on-frame-held.signature κs) →
      AsksNothing m ((on-frame-held.clauses m.𝓛 m.𝓜.mem m.𝓡.run κs a).requires tt)
  pub on_frame_gives :
      (κs : Lfts (on-frame.signature).lifetimes) (a : ArgsD on-frame.signature κs) (r : ResD on-frame.signature κs) (e : AtExit on-frame.ended κs) →
      Gives m ((on-frame.clauses m.𝓛 m.𝓜.mem m.𝓡.run κs a).ensures tt r e)
      (Calls a.1.1.1.1.1.1.1.0 (on_frame a.1.1.1.1.1.1.0.now)
      (record { counters = a.0.now; row = a.1.0.now; words = a.1.1.0.now; bytes = a.1.1.1.0.now; holds = hold_areas a.1.1.1.1.0.now a.1.1.1.1.1.0.now })
      (record { counters = e.0.now; row = e.1.0.now; words = e.1.1.0.now; bytes = e.1.1.1.0.now; holds = hold_areas e.1.1.1.1.0.now e.1.1.1.1.1.0.now }) r)
  pub on_frame_asks_nothing :
      (κs : Lfts (on-frame.signature).lifetimes) (a : ArgsD on-frame.signature κs) →
      AsksNothing m ((on-frame.clauses m.𝓛 m.𝓜.mem m.𝓡.run κs a).requires tt)
  pub flush_gives :
      (κs : Lfts (flush-call.signature).lifetimes) (a : ArgsD flush-call.signature κs) (r : ResD flush-call.signature κs) (e : AtExit flush-call.ended κs) →
      Gives m ((flush-call.clauses m.𝓛 m.𝓜.mem m.𝓡.run κs a).ensures tt r e)
      (Calls a.1.1.1.1.1.1.1.0 (flush a.1.1.1.1.1.1.0)
      (record { counters = a.0.now; row = a.1.0.now; words = a.1.1.0.now; bytes = a.1.1.1.0.now; holds = hold_areas a.1.1.1.1.0.now a.1.1.1.1.1.0.now })
      (record { counters = e.0.now; row = e.1.0.now; words = e.1.1.0.now; bytes = e.1.1.1.0.now; holds = hold_areas e.1.1.1.1.0.now e.1.1.1.1.1.0.now }) r)
  pub flush_asks_nothing :
      (κs : Lfts (flush-call.signature).lifetimes) (a : ArgsD flush-call.signature κs) →
      AsksNothing m ((flush-call.clauses m.𝓛 m.𝓜.mem m.𝓡.run κs a).requires tt)
  pub disconnected_from_gives :
      (κs : Lfts (disconnected-from.signature).lifetimes) (a : ArgsD disconnected-from.signature κs) (r : ResD disconnected-from.signature κs) (e : AtExit disconnected-from.ended κs) →
      Gives m ((disconnected-from.clauses m.𝓛 m.𝓜.mem m.𝓡.run κs a).ensures tt r e)
      (Calls a.1.1.1.1.1.1.1.0 (disconnected_from a.1.1.1.1.1.1.0)
      (record { counters = a.0.now; row = a.1.0.now; words = a.1.1.0.now; bytes = a.1.1.1.0.now; holds = hold_areas a.1.1.1.1.0.now a.1.1.1.1.1.0.now })
      (record { counters = e.0.now; row = e.1.0.now; words = e.1.1.0.now; bytes = e.1.1.1.0.now; holds = hold_areas e.1.1.1.1.0.now e.1.1.1.1.1.0.now }) r)
  pub disconnected_from_asks_nothing :
      (κs : Lfts (disconnected-from.signature).lifetimes) (a : ArgsD disconnected-from.signature κs) →
      AsksNothing m ((disconnected-from.clauses m.𝓛 m.𝓜.mem m.𝓡.run κs a).requires tt)
  -- the active's side: a sending begins (line, version, shape, words, bytes, place, handle, epoch, last number), and gives its next frame, each at the limit of its line
  pub begin_gives :
      (κs : Lfts (begin-call.signature).lifetimes) (a : ArgsD begin-call.signature κs) (r : ResD begin-call.signature κs) (e : AtExit begin-call.ended κs) →
      Gives m ((begin-call.clauses m.𝓛 m.𝓜.mem m.𝓡.run κs a).ensures tt r e)
      (Begins (limit_of a.0) a.0 a.1.0 a.1.1.0 a.1.1.1.0.now a.1.1.1.1.0.now a.1.1.1.1.1.0 a.1.1.1.1.1.1.0 a.1.1.1.1.1.1.1.0.0 a.1.1.1.1.1.1.1.1.0.0 r)
  pub begin_asks_nothing :
      (κs : Lfts (begin-call.signature).lifetimes) (a : ArgsD begin-call.signature κs) →
      AsksNothing m ((begin-call.clauses m.𝓛 m.𝓜.mem m.𝓡.run κs a).requires tt)
  pub send_whole_gives :
      (κs : Lfts (send_whole.signature).lifetimes) (a : ArgsD send_whole.signature κs) (r : ResD send_whole.signature κs) (e : AtExit send_whole.ended κs) →
      Gives m ((send_whole.clauses m.𝓛 m.𝓜.mem m.𝓡.run κs a).ensures tt r e)
      (SendsWhole (limit_of a.0.line) a.1.0 a.1.1.0.now a.1.1.1.0.now a.0 a.1.1.1.1.0.now e.1.1.1.1.0.now r)
  pub send_whole_asks_nothing :
      (κs : Lfts (send_whole.signature).lifetimes) (a : ArgsD send_whole.signature κs) →
      AsksNothing m ((send_whole.clauses m.𝓛 m.𝓜.mem m.𝓡.run κs a).requires tt)
