-- An answer as one number for C: a refusal with its detail, done with a count. Assumes nothing.
use Rattle.std.specs.Prelude.{ℕ, ◌+◌, ◌-◌, ◌*◌, ◌^◌, cond, ltb, Result, Ok, Err}
use Rattle.base_refusals.specs.Numbers.{number_of}
use Rattle.base_refusals.specs.declared.Refusal.{Refusal}

-- refusal n, with its detail
abbrev pub refusal_code : ℕ → ℕ → ℕ
refusal_code n detail = n * 2 ^ 40 + detail

-- done, with a count
abbrev pub done_code : ℕ → ℕ
done_code k = cond (ltb k (2 ^ 62)) (2 ^ 63 + k) (2 ^ 64 - 1)

-- what a call came to: a count, or a refusal
abbrev pub code_of : Result ℕ Refusal → ℕ
code_of (Ok k) = done_code k
code_of (Err e) = refusal_code (number_of e) 0
