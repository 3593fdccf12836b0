use Rattle.std.proofs.Common.{arith}
use Rattle.store_place.proofs.Header.{next_pos}
use Rattle.store_place.proofs.Logging.{recorded}
use Rattle.store_place.proofs.record.Goals as goal

pub record-requires-clause-le_seq : goal.record-requires-clause-le_seq
record-requires-clause-le_seq c = omega (arith, next_pos c.args.words.now)

pub returns : goal.returns
returns c C lb =
    let a = c.args in
    let r = c.«record» in
    recorded C a.max a.seq a.text.now a.bytes.now r.new.bytes r.new.words a.words.now (omega arith) lb r.auto.words r.auto.bytes c.requires.seq_value r.ensures
