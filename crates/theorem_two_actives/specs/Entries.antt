-- WHAT JOINS THE THEOREM TO THE ENTRY POINTS. Its calls (`Calls`) are those of demand 3, and that the contracts of on_frame_held, on_frame, flush and disconnected_from give
-- them and ask nothing is `Joined` of crates/theorem_whole_copy/specs/Entries.antt; here stand the two promotions, which a run may have too. The contracts themselves are
-- named, so a weaker `ensures` or a `requires` in crates/replica/src/lib.rt breaks this. Assumes nothing.
use contract.Lifetimes.{Lfts}
use denote.Triple.Clauses.{AtExit}
use borrow.Fn.World.{World, ArgsD, ResD}
use Rattle.model_standby.specs.State.{promote, promote_unchecked}
use Rattle.standby_segments.specs.Segments.{hold_areas}
use Rattle.replica.specs.contracts.promote as promote-call
use Rattle.replica.specs.contracts.promote_unchecked as promote-unchecked
use Rattle.theorem_whole_copy.specs.Demand.{Calls}
use Rattle.theorem_whole_copy.specs.Entries.{Gives, AsksNothing}
use Rattle.theorem_whole_copy.specs.Entries as whole_copy

pub record Joined (m : World) : Type 2 where
  pub frames_flush_drop : whole_copy.Joined m
  pub promote_gives :
      (κs : Lfts (promote-call.signature).lifetimes) (a : ArgsD promote-call.signature κs) (r : ResD promote-call.signature κs) (e : AtExit promote-call.ended κs) →
      Gives m ((promote-call.clauses m.𝓛 m.𝓜.mem m.𝓡.run κs a).ensures tt r e)
      (Calls a.1.1.1.1.1.1.0 promote
      (record { counters = a.0.now; row = a.1.0.now; words = a.1.1.0.now; bytes = a.1.1.1.0.now; holds = hold_areas a.1.1.1.1.0.now a.1.1.1.1.1.0.now })
      (record { counters = e.0.now; row = e.1.0.now; words = e.1.1.0.now; bytes = e.1.1.1.0.now; holds = hold_areas e.1.1.1.1.0.now e.1.1.1.1.1.0.now }) r)
  pub promote_asks_nothing :
      (κs : Lfts (promote-call.signature).lifetimes) (a : ArgsD promote-call.signature κs) →
      AsksNothing m ((promote-call.clauses m.𝓛 m.𝓜.mem m.𝓡.run κs a).requires tt)
  pub promote_unchecked_gives :
      (κs : Lfts (promote-unchecked.signature).lifetimes) (a : ArgsD promote-unchecked.signature κs) (r : ResD promote-unchecked.signature κs) (e : AtExit promote-unchecked.ended κs) →
      Gives m ((promote-unchecked.clauses m.𝓛 m.𝓜.mem m.𝓡.run κs a).ensures tt r e)
      (Calls a.1.1.1.1.1.1.0 promote_unchecked
      (record { counters = a.0.now; row = a.1.0.now; words = a.1.1.0.now; bytes = a.1.1.1.0.now; holds = hold_areas a.1.1.1.1.0.now a.1.1.1.1.1.0.now })
      (record { counters = e.0.now; row = e.1.0.now; words = e.1.1.0.now; bytes = e.1.1.1.0.now; holds = hold_areas e.1.1.1.1.0.now e.1.1.1.1.1.0.now }) r)
  pub promote_unchecked_asks_nothing :
      (κs : Lfts (promote-unchecked.signature).lifetimes) (a : ArgsD promote-unchecked.signature κs) →
      AsksNothing m ((promote-unchecked.clauses m.𝓛 m.𝓜.mem m.𝓡.run κs a).requires tt)
