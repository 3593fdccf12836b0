use Rattle.std.proofs.Common.{get_or}
use Rattle.model_text.specs.Printable.{is_marks}
use Rattle.store_place.specs.Place.{marks_of}
use Rattle.store_place.proofs.Texts.{field_stands, field_length, valid_text, no_text}
use Rattle.store_place.proofs.marks.Goals as goal

pub returns-then-is_marks-clause-is : goal.returns-then-is_marks-clause-is
unfolding marks_of
returns-then-is_marks-clause-is c = valid_text is_marks c.args.bytes.now 160 64 (get_or c.args.words.now 6 0) _ _ c.text_in-marks.ensures c.is_marks.ensures c.if-is_marks.true

pub returns-then-is_marks-clause-stands : goal.returns-then-is_marks-clause-stands
returns-then-is_marks-clause-stands c = field_stands c.args.bytes.now 160 64 (get_or c.args.words.now 6 0) _ c.text_in-marks.ensures

pub returns-then-is_marks-clause-within : goal.returns-then-is_marks-clause-within
returns-then-is_marks-clause-within c = field_length c.args.bytes.now 160 64 (get_or c.args.words.now 6 0) _ c.text_in-marks.ensures

pub returns-else-is_marks-clause-is : goal.returns-else-is_marks-clause-is
unfolding marks_of
returns-else-is_marks-clause-is c = no_text is_marks c.args.bytes.now 160 64 (get_or c.args.words.now 6 0) _ _ c.text_in-marks.ensures c.is_marks.ensures c.if-is_marks.false
