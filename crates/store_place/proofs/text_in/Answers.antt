use Rattle.std.proofs.Common.{get_or}
use Rattle.store_place.proofs.Texts.{field_is}
use Rattle.store_place.proofs.text_in.Goals as goal

pub returns : goal.returns
returns c = field_is c.args.bytes.now c.args.text_field.at c.args.text_field.size (get_or c.args.words.now c.args.text_field.length 0) c.min.result c.min.ensures
