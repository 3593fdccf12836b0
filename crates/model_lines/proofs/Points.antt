-- Document 01's two lines, as what goes into the program and what comes out; computed. Assumes nothing.
use Prim.Native.Nat.{ℕ}
use mathlib.Core.Path.{◌≡◌, refl}
use mathlib.Core.List.{List, [], ◌∷◌, ◌++◌}
use Rattle.model_text.specs.Utf8.{utf8, well_formed, lead_length, own_bits, least, fitting, is_scalar, is_surrogate}
use Rattle.model_text.specs.Hex.{digit_value, line_bytes, digit_of, decimal, refusal_text}
use Rattle.model_text.specs.Lines.{feed}
use Rattle.model_frame.specs.Bytes.{le, bytes_of}
use Rattle.model_frame.specs.Parse.{read_bytes, read_num, read_blob, read_text, read_count, many}
use Rattle.model_frame.specs.Reading.{read_changes, read_kinds, read_app_records, read_part, hello_fields, batch_fields, read_fields, read_body, decode}
use Rattle.model_frame.specs.Writing.{body_bytes, encode}
use Rattle.model_text.specs.Version.{is_version}
use Rattle.model_standby.specs.Answer.{given}
use Rattle.model_standby.specs.Standby.{on_hello, on_handle, on_batch, on_given, step}
use Rattle.model_lines.specs.Program.{frames_output}

-- 140000000101000500000000000000010000006100000000
abbrev first : List ℕ
first = 49 ∷ 52 ∷ 48 ∷ 48 ∷ 48 ∷ 48 ∷ 48 ∷ 48 ∷ 48 ∷ 49 ∷ 48 ∷ 49 ∷ 48 ∷ 48 ∷ 48 ∷ 53 ∷ 48 ∷ 48 ∷ 48 ∷ 48 ∷ 48 ∷ 48 ∷ 48 ∷ 48 ∷ 48 ∷ 48 ∷ 48 ∷ 48 ∷ 48 ∷ 48 ∷ 48 ∷ 49 ∷ 48 ∷ 48 ∷ 48 ∷ 48 ∷ 48 ∷ 48 ∷ 54 ∷ 49 ∷ 48 ∷ 48 ∷ 48 ∷ 48 ∷ 48 ∷ 48 ∷ 48 ∷ 48 ∷ []

-- a Hello of a lower epoch: 140000000101000400000000000000010000006100000000
abbrev lower : List ℕ
lower = 49 ∷ 52 ∷ 48 ∷ 48 ∷ 48 ∷ 48 ∷ 48 ∷ 48 ∷ 48 ∷ 49 ∷ 48 ∷ 49 ∷ 48 ∷ 48 ∷ 48 ∷ 52 ∷ 48 ∷ 48 ∷ 48 ∷ 48 ∷ 48 ∷ 48 ∷ 48 ∷ 48 ∷ 48 ∷ 48 ∷ 48 ∷ 48 ∷ 48 ∷ 48 ∷ 48 ∷ 49 ∷ 48 ∷ 48 ∷ 48 ∷ 48 ∷ 48 ∷ 48 ∷ 54 ∷ 49 ∷ 48 ∷ 48 ∷ 48 ∷ 48 ∷ 48 ∷ 48 ∷ 48 ∷ 48 ∷ []

-- 1e000000040900000005000000000000000100000000000000000000000000000000
abbrev second : List ℕ
second = 49 ∷ 101 ∷ 48 ∷ 48 ∷ 48 ∷ 48 ∷ 48 ∷ 48 ∷ 48 ∷ 52 ∷ 48 ∷ 57 ∷ 48 ∷ 48 ∷ 48 ∷ 48 ∷ 48 ∷ 48 ∷ 48 ∷ 53 ∷ 48 ∷ 48 ∷ 48 ∷ 48 ∷ 48 ∷ 48 ∷ 48 ∷ 48 ∷ 48 ∷ 48 ∷ 48 ∷ 48 ∷ 48 ∷ 48 ∷ 48 ∷ 49 ∷ 48 ∷ 48 ∷ 48 ∷ 48 ∷ 48 ∷ 48 ∷ 48 ∷ 48 ∷ 48 ∷ 48 ∷ 48 ∷ 48 ∷ 48 ∷ 48 ∷ 48 ∷ 48 ∷ 48 ∷ 48 ∷ 48 ∷ 48 ∷ 48 ∷ 48 ∷ 48 ∷ 48 ∷ 48 ∷ 48 ∷ 48 ∷ 48 ∷ 48 ∷ 48 ∷ 48 ∷ 48 ∷ []

-- 110000000205000000000000000700000000000000
abbrev first_answer : List ℕ
first_answer = 49 ∷ 49 ∷ 48 ∷ 48 ∷ 48 ∷ 48 ∷ 48 ∷ 48 ∷ 48 ∷ 50 ∷ 48 ∷ 53 ∷ 48 ∷ 48 ∷ 48 ∷ 48 ∷ 48 ∷ 48 ∷ 48 ∷ 48 ∷ 48 ∷ 48 ∷ 48 ∷ 48 ∷ 48 ∷ 48 ∷ 48 ∷ 55 ∷ 48 ∷ 48 ∷ 48 ∷ 48 ∷ 48 ∷ 48 ∷ 48 ∷ 48 ∷ 48 ∷ 48 ∷ 48 ∷ 48 ∷ 48 ∷ 48 ∷ []

-- R 14
abbrev second_answer : List ℕ
second_answer = 82 ∷ 32 ∷ 49 ∷ 52 ∷ []

-- the final line feed may lack; the state is carried on from line to line; no input has no output; an empty line, one of a single digit, and "R 1" are 26
two_lines :
    frames_output (first ++ (feed ∷ (second ++ (feed ∷ []))))
    ∷ frames_output (first ++ (feed ∷ second))
    ∷ frames_output (first ++ (feed ∷ lower))
    ∷ frames_output []
    ∷ frames_output (feed ∷ 48 ∷ feed ∷ 82 ∷ 32 ∷ 49 ∷ [])
    ∷ []
    ≡ (first_answer ++ (feed ∷ (second_answer ++ (feed ∷ []))))
    ∷ (first_answer ++ (feed ∷ (second_answer ++ (feed ∷ []))))
    ∷ (first_answer ++ (feed ∷ (first_answer ++ (feed ∷ []))))
    ∷ []
    ∷ (82 ∷ 32 ∷ 50 ∷ 54 ∷ feed ∷ 82 ∷ 32 ∷ 50 ∷ 54 ∷ feed ∷ 82 ∷ 32 ∷ 50 ∷ 54 ∷ feed ∷ [])
    ∷ []
unfolding step on_given on_hello on_batch on_handle given decode le read_num read_bytes read_blob read_text read_count many read_body read_fields hello_fields batch_fields read_kinds read_changes read_app_records read_part utf8 well_formed lead_length own_bits least fitting is_scalar is_surrogate digit_value line_bytes digit_of decimal refusal_text encode body_bytes bytes_of is_version
two_lines = refl
