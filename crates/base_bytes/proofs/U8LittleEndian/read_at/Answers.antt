use Rattle.base_laws.proofs.Little.{le_one}
use Rattle.base_bytes.proofs.U8LittleEndian.read_at.Goals as goal

pub returns : goal.returns
returns c = cc (le_one c.args.buf.now c.args.at)
