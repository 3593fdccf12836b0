use Rattle.std.proofs.Common.{arith}
use Rattle.store_log.proofs.Ring.{write_fits, write_wraps}
use Rattle.store_log.proofs.ring_write.Goals as goal

pub returns-then-msg-room-clause-rolled : goal.returns-then-msg-room-clause-rolled
returns-then-msg-room-clause-rolled c =
    let a = c.args in
    write_fits a.bytes.now a.msg.now c.copy.new.out a.at c.copy.result (omega arith) c.copy.ensures

pub returns-clause-rolled : goal.returns-clause-rolled
returns-clause-rolled c =
    let a = c.args in
    write_wraps a.bytes.now a.msg.now c.copy-2.new.out c.copy-3.new.out a.at c.copy-2.result c.copy-3.result (omega arith) (omega arith) (omega arith) (omega arith) c.copy-2.ensures c.copy-3.ensures
