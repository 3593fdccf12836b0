use Rattle.std.proofs.Common.{arith}
use Rattle.fix_message.proofs.Judging.{opened, told_some, told_none}
use Rattle.fix_message.proofs.Skimming.{not_started, number_is, enough, enough_7, skims}
use Rattle.fix_message.proofs.skim_message.Goals as goal
use Rattle.fix_message.proofs.skim_message.Goals.{then-room-lt7-via-then-room-lt7, then-room-lt7-via-else-room-lt7+then-room-o}

pub returns-in_err-o : goal.returns-in_err-o
returns-in_err-o c = λ q e. absurd (not_started c.args.file.now c.args.at c.find_start.result (told_none _ _ _ c.in_err-o.ensures.value) c.find_start.ensures q e)

pub returns-in_err-number : goal.returns-in_err-number
returns-in_err-number c = λ q e.
    let o = opened c.args.file.now c.args.at c.find_start.result (told_some _ _ _ c.in_ok-o.ensures.value) c.find_start.ensures in
    let met = number_is c.args.file.now c.args.at q e _ o c.find_sequence.result c.find_sequence.ensures in
    let none = told_none _ _ _ c.in_err-number.ensures.value in
    cc

pub overflow_sub-room : goal.overflow_sub-room
overflow_sub-room c = let o = opened c.args.file.now c.args.at c.find_start.result (told_some _ _ _ c.in_ok-o.ensures.value) c.find_start.ensures in omega (arith, o.high, o.within)

pub returns-then-room-lt7 : goal.returns-then-room-lt7
returns-then-room-lt7 c = λ q e.
    let o = opened c.args.file.now c.args.at c.find_start.result (told_some _ _ _ c.in_ok-o.ensures.value) c.find_start.ensures in
    elim c.then-room-lt7.branch [
      | then-room-lt7-via-then-room-lt7 w ↦ enough c.args.file.now c.args.at q e _ o (omega (arith, c.well_formed, c.ranges)) w.if-room-lt7.true
      | then-room-lt7-via-else-room-lt7+then-room-o w ↦ enough_7 c.args.file.now c.args.at q e _ o (omega (arith, c.well_formed, c.ranges)) w.if-room-o.true
    ]

pub returns : goal.returns
returns c = λ q e.
    let o = opened c.args.file.now c.args.at c.find_start.result (told_some _ _ _ c.in_ok-o.ensures.value) c.find_start.ensures in
    let met = number_is c.args.file.now c.args.at q e _ o c.find_sequence.result c.find_sequence.ensures in
    let some = told_some _ _ _ c.in_ok-number.ensures.value in
    skims c.args.file.now c.args.at q e _ o (omega (arith, c.well_formed, c.ranges)) c.in_ok-number.number cc
