use Rattle.base_bytes.proofs.Numbers.{bytes_of_4}
use Rattle.base_bytes.proofs.U32LittleEndian.put_at.Goals as goal

pub returns-clause-wrote : goal.returns-clause-wrote
returns-clause-wrote c = rw (c.to_le_bytes.ensures, bytes_of_4 c.args.self) at c.store.ensures
