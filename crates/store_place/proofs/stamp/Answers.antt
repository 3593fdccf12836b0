use Rattle.std.proofs.Common.{get_or}
use Rattle.model_text.specs.Stamp.{is_stamp}
use Rattle.store_place.specs.Place.{stamp_of}
use Rattle.store_place.proofs.Texts.{field_stands, field_length, valid_text, no_text}
use Rattle.store_place.proofs.stamp.Goals as goal

pub returns-then-is_stamp-clause-is : goal.returns-then-is_stamp-clause-is
unfolding stamp_of
returns-then-is_stamp-clause-is c = valid_text is_stamp c.args.bytes.now 128 32 (get_or c.args.words.now 5 0) _ _ c.text_in-stamp.ensures c.is_stamp.ensures c.if-is_stamp.true

pub returns-then-is_stamp-clause-stands : goal.returns-then-is_stamp-clause-stands
returns-then-is_stamp-clause-stands c = field_stands c.args.bytes.now 128 32 (get_or c.args.words.now 5 0) _ c.text_in-stamp.ensures

pub returns-then-is_stamp-clause-within : goal.returns-then-is_stamp-clause-within
returns-then-is_stamp-clause-within c = field_length c.args.bytes.now 128 32 (get_or c.args.words.now 5 0) _ c.text_in-stamp.ensures

pub returns-else-is_stamp-clause-is : goal.returns-else-is_stamp-clause-is
unfolding stamp_of
returns-else-is_stamp-clause-is c = no_text is_stamp c.args.bytes.now 128 32 (get_or c.args.words.now 5 0) _ _ c.text_in-stamp.ensures c.is_stamp.ensures c.if-is_stamp.false
