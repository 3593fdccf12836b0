-- What the functions for C return. Assumes nothing.
use Rattle.std.specs.Prelude.{ℕ, length}
use Rattle.model_times.specs.Times.{Read, number, refused, Written, text, turned_down}
use Rattle.c_code.specs.Codes.{done_code, refusal_code}
use Rattle.c_times.specs.declared.Numbered.{Numbered}

-- 0 and the number, or the refusal and zeros
abbrev pub numbered_of : Read → Numbered
numbered_of (number millis picos) = record { refusal = 0; millis = millis; picos = picos }
numbered_of (refused n) = record { refusal = n; millis = 0; picos = 0 }

-- the text's length as a count, or the refusal
abbrev pub returned : Written → ℕ
returned (text s) = done_code (length s)
returned (turned_down n) = refusal_code n 0
