use Rattle.std.proofs.Common.{rules, refl}
use mathlib.Core.Path.{sym}
use Rattle.base_laws.proofs.Little.{put_one}
use Rattle.model_frame.proofs.Le.{length_bytes}
use Rattle.base_bytes.proofs.U8LittleEndian.put_at.Goals as goal

pub returns-clause-wrote : goal.returns-clause-wrote
returns-clause-wrote c =
    let a = c.args in
    record { bytes = sym (put_one a.out.now a.at a.self (search rules)); past = rw length_bytes refl }
