use Rattle.fix_field.proofs.Scan.{blocks_free}
use Rattle.fix_field.proofs.Pieces.{rest}
use Rattle.fix_field.proofs.skip_blocks.Goals as goal

pub returns : goal.returns
returns c = blocks_free c.args.file.now c.args.from c.free_blocks.result (rest c.args.file.now c.args.from) c.requires c.free_blocks.ensures.within c.free_blocks.ensures.free
