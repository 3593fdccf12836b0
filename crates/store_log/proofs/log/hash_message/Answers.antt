use Rattle.store_log.proofs.Hash.{hash_parts}
use Rattle.store_log.proofs.log.hash_message.Goals as goal

pub returns : goal.returns
returns c = hash_parts c.args.hash c.args.number _ _ _ _ _ _ c.word-a.ensures c.word-b.ensures c.bytes-c.ensures c.bytes.ensures
