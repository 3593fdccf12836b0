use Rattle.std.proofs.Common.{arith}
use Rattle.store_place.proofs.Logging.{cleared}
use Rattle.store_place.proofs.reset.Goals as goal

pub returns : goal.returns
returns c C b = cleared C c.args.max b c.clear.new.words c.args.words.now (omega arith) c.clear.auto.words (c.clear.ensures C)
