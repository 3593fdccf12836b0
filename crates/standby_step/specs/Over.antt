-- A call's core, over the areas as one record. Assumes nothing.
use Rattle.model_standby.specs.State.{Call}
use Rattle.standby_state.specs.declared.Areas.{Areas}
use Rattle.standby_state.specs.Lent.{holds_of}
use Rattle.standby_state.specs.declared.Standing.{Standing}
use Rattle.standby_state.specs.declared.Outcome.{Outcome}
use Rattle.standby_step.specs.Steps.{StepIs}

abbrev pub StepOver : Standing → Call → Areas → Areas → Outcome → Type 0
StepOver s call a a' r = StepIs s.settings s.counters s.lookup a.row.now call a.words.now a'.words.now a.bytes.now a'.bytes.now (holds_of a) (holds_of a') r
