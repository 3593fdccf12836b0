use Rattle.std.proofs.Common.{arith}
use mathlib.Core.Path.{sym}
use Rattle.base_laws.proofs.Places.{num_short, num_got}
use Rattle.frame_reader.proofs.Reader.number.Goals as goal

pub returns-then-left-WIDTH-clause-read : goal.returns-then-left-WIDTH-clause-read
returns-then-left-WIDTH-clause-read g c =
    let at = c.args.self.now in
    sym (num_short g.T.LittleEndian.WIDTH at.buf.now at.at c.left.ensures (omega (arith, c.WIDTH.ensures)))

pub read_at-number-requires : goal.read_at-number-requires
read_at-number-requires g c = omega (arith, c.WIDTH.ensures, g.met.T.LittleEndian.some)

pub returns-clause-read : goal.returns-clause-read
returns-clause-read g c =
    let at = c.args.self.now in
    rw (c.WIDTH-2.ensures, c.read_at-number.ensures) (sym (num_got g.T.LittleEndian.WIDTH at.buf.now at.at c.left.ensures (omega (arith, c.WIDTH.ensures))))

pub returns-clause-within : goal.returns-clause-within
returns-clause-within g c = omega (arith, c.WIDTH.ensures, c.WIDTH-2.ensures, g.met.T.LittleEndian.some)
