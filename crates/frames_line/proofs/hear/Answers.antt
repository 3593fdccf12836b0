use Rattle.std.proofs.Common.{arith}
use Rattle.frames_line.proofs.Laws.{heard_call, heard_none, reads_within}
use Rattle.frames_line.proofs.hear.Goals as goal

pub slice_bounds-on_frame-end : goal.slice_bounds-on_frame-end
slice_bounds-on_frame-end c = omega (arith, reads_within c.read_line.ensures c.in-Some.is, c.read_line.auto.out)

pub returns-in-Some : goal.returns-in-Some
returns-in-Some c = heard_call c.args.line.now _ c.read_line.ensures (λ i. (c.slice_known-5-1.given i).fits) c.in-Some.is c.settings.ensures c.on_frame-answer.auto.ends c.on_frame-answer.ensures

pub returns-in-None : goal.returns-in-None
returns-in-None c = heard_none c.args.line.now c.read_line.ensures c.in-None.is
