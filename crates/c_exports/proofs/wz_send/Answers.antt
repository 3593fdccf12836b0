use Rattle.std.proofs.Common.{sym}
use Rattle.active.specs.Whole.{limit_of}
use Rattle.c_exports.specs.Exports.{shape_of}
use Rattle.c_exports.proofs.Sending.{is_called}
use Rattle.c_exports.proofs.wz_send.Goals as goal

pub returns-in-Ok : goal.returns-in-Ok
returns-in-Ok c =
    let a = c.args in
    let called = rw c.in-Ok.ensures.begun_on at c.send_code.ensures in
    rw (sym c.in-Some.ensures) (is_called (limit_of c.in-Some.line) a.version (shape_of a.sessions a.c a.m) a.words.now a.bytes.now a.place a.handle a.epoch a.sending.now c.in-Ok.s c.in-Ok.ensures.start called)
