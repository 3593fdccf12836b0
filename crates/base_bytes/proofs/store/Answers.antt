use Rattle.std.proofs.Common.{rules, refl, append_assoc, ◌+◌, length, take, drop}
use mathlib.Core.Path.{sym}
use borrow.Rule.Slice.PartMut.{Post-is}
use Rattle.base_laws.proofs.Little.{write_is}
use Rattle.base_bytes.proofs.store.Goals as goal

pub returns : goal.returns
returns c =
    let a = c.args in
    record {
      bytes =
          rw (write_is a.out.now a.at a.s.now (search rules), c.copy_from_slice.ensures.after, Post-is a.at (a.at + length a.s.now) a.out.now (search rules)) (sym (append_assoc (take a.at a.out.now) a.s.now (drop (a.at + length a.s.now) a.out.now)));
      past = refl;
    }
