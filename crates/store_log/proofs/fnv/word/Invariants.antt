use Rattle.model_frame.specs.Bytes.{bytes_of}
use Rattle.model_session.specs.Summary.{fnv}
use Rattle.store_log.proofs.Hash.{Word}
use Rattle.store_log.proofs.fnv.word.Given as goal

abbrev pub invariant-loop-rest : goal.invariant-loop-rest
invariant-loop-rest l = Word (fnv l.hash (bytes_of 8 l.x)) l.carried l.left l.rest

abbrev pub decreases-loop-rest : goal.decreases-loop-rest
decreases-loop-rest l = l.left
