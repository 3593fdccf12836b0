-- Document 01's starred points hold: the definitions, computed, answer the whole table.
-- Assumes nothing.
use mathlib.Core.Path.{◌≡◌, refl}
use mathlib.Core.List.{map}
use Rattle.model_text.specs.Utf8.{utf8, well_formed, lead_length, own_bits, least, fitting, is_scalar, is_surrogate, is_tail}
use Rattle.model_text.specs.Calendar.{is_leap, month_days}
use Rattle.model_text.specs.Stamp.{is_digit, is_pair, has_digits, day_exists, is_short, is_stamp, takes_stamp}
use Rattle.model_frame.specs.Bytes.{le}
use Rattle.model_frame.specs.Parse.{read_bytes, read_num, read_blob, read_text, read_count, many}
use Rattle.model_frame.specs.Reading.{read_stamp, set_created_at_fields, read_change, read_changes, read_kinds, read_app_records, read_part, read_reason, hello_fields, batch_fields, nack_fields, read_fields, read_body, decode}
use Rattle.model_session.specs.Summary.{last_out}
use Rattle.model_session.specs.Lag.{push}
use Rattle.model_standby.specs.Starred.{Question, Reply, answer_to, starred}

pub starred_hold : map (λ (p : Question × Reply). answer_to p.0) starred ≡ map (λ (p : Question × Reply). p.1) starred
unfolding decode le read_num read_bytes read_blob read_text read_count many read_body read_fields hello_fields batch_fields nack_fields read_kinds read_changes read_change set_created_at_fields read_app_records read_part read_reason read_stamp utf8 well_formed lead_length own_bits least fitting is_scalar is_surrogate is_tail is_digit is_pair is_short is_stamp has_digits day_exists month_days is_leap takes_stamp last_out push
starred_hold = refl
