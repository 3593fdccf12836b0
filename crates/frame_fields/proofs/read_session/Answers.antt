use Rattle.model_frame.specs.Reading.{read_key}
use Rattle.frame_reader.specs.Answers.{span_of}
use Rattle.frame_reader.proofs.Faults.{passed_on}
use Rattle.frame_fields.proofs.Keys.{key_told}
use Rattle.frame_fields.proofs.read_session.Goals as goal

pub returns-in_err-begin_string-clause-read : goal.returns-in_err-begin_string-clause-read
unfolding read_key
returns-in_err-begin_string-clause-read c = rw (← c.in_err-begin_string.ensures.read, passed_on c.from_residual.result c.in_err-begin_string.field-0.0 c.from_residual.ensures)

pub returns-in_err-sender_comp_id-clause-read : goal.returns-in_err-sender_comp_id-clause-read
unfolding read_key
returns-in_err-sender_comp_id-clause-read c = rw (← c.in_ok-begin_string.ensures.read, ← c.in_err-sender_comp_id.ensures.read, passed_on c.from_residual-in_err-sender_comp_id.result c.in_err-sender_comp_id.field-0.0 c.from_residual-in_err-sender_comp_id.ensures)

pub returns-in_err-target_comp_id-clause-read : goal.returns-in_err-target_comp_id-clause-read
unfolding read_key
returns-in_err-target_comp_id-clause-read c = rw (← c.in_ok-begin_string.ensures.read, ← c.in_ok-sender_comp_id.ensures.read, ← c.in_err-target_comp_id.ensures.read, passed_on c.from_residual-in_err-target_comp_id.result c.in_err-target_comp_id.field-0.0 c.from_residual-in_err-target_comp_id.ensures)

pub returns-in_err-key_suffix-clause-read : goal.returns-in_err-key_suffix-clause-read
unfolding read_key
returns-in_err-key_suffix-clause-read c = rw (← c.in_ok-begin_string.ensures.read, ← c.in_ok-sender_comp_id.ensures.read, ← c.in_ok-target_comp_id.ensures.read, ← c.in_err-key_suffix.ensures.read, passed_on c.from_residual-in_err-key_suffix.result c.in_err-key_suffix.field-0.0 c.from_residual-in_err-key_suffix.ensures)

pub returns-then-begin_fits-sender_fits-clause-read : goal.returns-then-begin_fits-sender_fits-clause-read
unfolding read_key
returns-then-begin_fits-sender_fits-clause-read c =
    let b = c.args.reader.now.buf.now in
    let one = c.checked_text.ensures.same in
    let two = c.checked_text-2.ensures.same in
    let three = c.checked_text-3.ensures.same in
    let key = key_told (span_of b c.in_ok-begin_string.begin_string) (span_of b c.in_ok-sender_comp_id.sender_comp_id) (span_of b c.in_ok-target_comp_id.target_comp_id) (span_of b c.in_ok-key_suffix.key_suffix) c.in_ok-begin_string.ensures.judged (rw one at c.in_ok-sender_comp_id.ensures.judged) (rw (two, one) at c.in_ok-target_comp_id.ensures.judged) (rw (three, two, one) at c.in_ok-key_suffix.ensures.judged) in
    rw (← c.in_ok-begin_string.ensures.read, ← c.in_ok-sender_comp_id.ensures.read, ← c.in_ok-target_comp_id.ensures.read, ← c.in_ok-key_suffix.ensures.read, three, two, one, key, c.if-begin_fits-sender_fits.true)

pub returns-else-begin_fits-sender_fits-clause-read : goal.returns-else-begin_fits-sender_fits-clause-read
unfolding read_key
returns-else-begin_fits-sender_fits-clause-read c =
    let b = c.args.reader.now.buf.now in
    let one = c.checked_text.ensures.same in
    let two = c.checked_text-2.ensures.same in
    let three = c.checked_text-3.ensures.same in
    let key = key_told (span_of b c.in_ok-begin_string.begin_string) (span_of b c.in_ok-sender_comp_id.sender_comp_id) (span_of b c.in_ok-target_comp_id.target_comp_id) (span_of b c.in_ok-key_suffix.key_suffix) c.in_ok-begin_string.ensures.judged (rw one at c.in_ok-sender_comp_id.ensures.judged) (rw (two, one) at c.in_ok-target_comp_id.ensures.judged) (rw (three, two, one) at c.in_ok-key_suffix.ensures.judged) in
    rw (← c.in_ok-begin_string.ensures.read, ← c.in_ok-sender_comp_id.ensures.read, ← c.in_ok-target_comp_id.ensures.read, ← c.in_ok-key_suffix.ensures.read, three, two, one, key, c.if-begin_fits-sender_fits.false)
