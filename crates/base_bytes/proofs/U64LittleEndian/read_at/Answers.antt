use Rattle.std.proofs.Common.{◌+◌, refl, arith}
use Rattle.base_laws.proofs.Little.{le_one}
use Rattle.base_bytes.proofs.Numbers.{le_next}
use Rattle.base_bytes.proofs.U64LittleEndian.read_at.Goals as goal

pub returns : goal.returns
returns c =
    let b = c.args.buf.now in
    let at = c.args.at in
    omega (arith, c.from_le_bytes.ensures, le_next 8 7 b at (at + 1) refl (omega arith), le_next 7 6 b (at + 1) (at + 2) refl (omega arith), le_next 6 5 b (at + 2) (at + 3) refl (omega arith), le_next 5 4 b (at + 3) (at + 4) refl (omega arith), le_next 4 3 b (at + 4) (at + 5) refl (omega arith), le_next 3 2 b (at + 5) (at + 6) refl (omega arith), le_next 2 1 b (at + 6) (at + 7) refl (omega arith), le_one b (at + 7))
