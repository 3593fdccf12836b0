use Rattle.std.proofs.Common.{ℕ, sym, ap, ◌∙◌}
use Rattle.c_import.specs.Answering.{built_of}
use Rattle.c_import.proofs.Laws.{builds}
use Rattle.c_import.proofs.wz_import.Goals as goal

pub returns-in-Ok : goal.returns-in-Ok
returns-in-Ok c = builds _ c.lowest.result c.import.ensures c.in-Ok.is c.lowest.ensures c.unwrap_or.ensures

pub returns-in-Err : goal.returns-in-Err
returns-in-Err c = record { answer = c.import.result; returned = ap (λ (n : ℕ). record { refusal = n; place = 0; at = c.in-Err.f.at; lowest = 0 }) c.number.ensures ∙ sym (ap (built_of _ _ _) c.in-Err.is); promise = c.import.ensures }
