use Rattle.std.proofs.Common.{◌+◌, refl, arith}
use Rattle.base_laws.proofs.Little.{le_one}
use Rattle.base_bytes.proofs.Numbers.{le_next}
use Rattle.base_bytes.proofs.U16LittleEndian.read_at.Goals as goal

pub returns : goal.returns
returns c =
    let b = c.args.buf.now in
    let at = c.args.at in
    omega (arith, c.from_le_bytes.ensures, le_next 2 1 b at (at + 1) refl (omega arith), le_one b (at + 1))
