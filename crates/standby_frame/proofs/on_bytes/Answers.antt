use mathlib.Core.Path.{◌∙◌, refl, ap}
use Rattle.model_frame.proofs.Le.{are_bytes}
use Rattle.frame_reader.specs.Answers.{fault_of}
use Rattle.frame.proofs.Latest.{sized_latest}
use Rattle.standby_state.specs.Answers.{is_refused}
use Rattle.standby_state.specs.Outcomes.{leaving}
use Rattle.standby_state.specs.Lent.{holds_of}
use Rattle.standby_frame.proofs.Laws.{damaged_left, promoted_left, intact_taken}
use Rattle.standby_frame.proofs.Frames.{number_some, given_bad, given_more, given_short, given_whole, read_writable}
use Rattle.standby_frame.proofs.on_bytes.Goals as goal

pub returns-in-Err-clause-is : goal.returns-in-Err-clause-is
returns-in-Err-clause-is c =
    let a = c.args in
    damaged_left a.standing.settings a.standing.counters a.standing.lookup a.areas.now.row.now a.frame.now a.areas.now.words.now a.areas.now.bytes.now (holds_of a.areas.now) c.requires.rules _
    (rw c.of_byte.ensures at (given_bad c.of_byte.result.version a.frame.now c.in-Err.e c.in-Err.ensures.result_value)) (number_some (fault_of c.in-Err.e)) (c.unchanged.ensures ∙ ap (leaving c.args.standing.counters) (c.refused.ensures ∙ ap is_refused c.number.ensures))

pub returns-in-Ok-None-clause-is : goal.returns-in-Ok-None-clause-is
returns-in-Ok-None-clause-is c =
    let a = c.args in
    damaged_left a.standing.settings a.standing.counters a.standing.lookup a.areas.now.row.now a.frame.now a.areas.now.words.now a.areas.now.bytes.now (holds_of a.areas.now) c.requires.rules 26
    (rw c.of_byte.ensures at (given_more c.of_byte.result.version a.frame.now (rw c.in-Ok-None.field-0-is at c.in-Ok-None.ensures.result_value))) refl c.refuse.ensures

pub returns-then-n-frame-clause-is : goal.returns-then-n-frame-clause-is
returns-then-n-frame-clause-is c =
    let a = c.args in
    damaged_left a.standing.settings a.standing.counters a.standing.lookup a.areas.now.row.now a.frame.now a.areas.now.words.now a.areas.now.bytes.now (holds_of a.areas.now) c.requires.rules 26
    (rw c.of_byte.ensures at (given_short c.of_byte.result.version a.frame.now c.in-Ok-Some.f c.in-Ok-Some.n (rw c.in-Ok-Some.field-0-is at c.in-Ok-Some.ensures.result_value) c.if-n-frame.true)) refl c.refuse-then-n-frame.ensures

pub returns-then-counters-ne0-clause-is : goal.returns-then-counters-ne0-clause-is
returns-then-counters-ne0-clause-is c =
    let a = c.args in
    let stands = rw c.in-Ok-Some.field-0-is at c.in-Ok-Some.ensures.stands_in in
    promoted_left a.standing.settings a.standing.counters a.standing.lookup a.areas.now.row.now a.frame.now a.areas.now.words.now a.areas.now.bytes.now (holds_of a.areas.now) c.requires.rules _
    (rw c.of_byte.ensures at (given_whole c.of_byte.result.version a.frame.now c.in-Ok-Some.f c.in-Ok-Some.n (rw c.in-Ok-Some.field-0-is at c.in-Ok-Some.ensures.result_value) stands.all c.if-n-frame.false)) c.if-counters-ne0.true c.refuse-then-counters-ne0.ensures

pub on_decoded-requires-clause-writable : goal.on_decoded-requires-clause-writable
on_decoded-requires-clause-writable c =
    let a = c.args in
    let stands = rw c.in-Ok-Some.field-0-is at c.in-Ok-Some.ensures.stands_in in
    read_writable _ a.frame.now c.in-Ok-Some.f c.in-Ok-Some.n (rw c.in-Ok-Some.field-0-is at c.in-Ok-Some.ensures.result_value) stands.all (are_bytes a.frame.now (λ i. (c.type_inv.frame i).fits)) c.if-n-frame.false

pub on_decoded-requires-clause-sized : goal.on_decoded-requires-clause-sized
on_decoded-requires-clause-sized c =
    let a = c.args in
    let stands = rw c.in-Ok-Some.field-0-is at c.in-Ok-Some.ensures.stands_in in
    sized_latest _ a.frame.now c.in-Ok-Some.f stands.all stands.sized

pub returns-else-counters-ne0-clause-is : goal.returns-else-counters-ne0-clause-is
returns-else-counters-ne0-clause-is c =
    let a = c.args in
    let stands = rw c.in-Ok-Some.field-0-is at c.in-Ok-Some.ensures.stands_in in
    intact_taken a.standing.settings a.standing.counters a.standing.lookup a.areas.now.row.now a.frame.now a.areas.now.words.now a.areas.now.bytes.now (holds_of a.areas.now) c.requires.rules _
    (rw c.of_byte.ensures at (given_whole c.of_byte.result.version a.frame.now c.in-Ok-Some.f c.in-Ok-Some.n (rw c.in-Ok-Some.field-0-is at c.in-Ok-Some.ensures.result_value) stands.all c.if-n-frame.false)) c.if-counters-ne0.false c.on_decoded.ensures.is
