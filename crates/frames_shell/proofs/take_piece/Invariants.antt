use Rattle.std.proofs.Common.{length, ◌≡◌, ◌-◌, ◌≤◌}
use Rattle.frames_shell.proofs.take_piece.Given as goal

-- the line's area keeps its length, the next line's bytes lie in it, and the piece goes on within itself
abbrev pub invariant-loop-at : goal.invariant-loop-at
invariant-loop-at g l = (length l.line ≡ length l.initial.line) × ((l.len ≤ length l.initial.line) × (l.at ≤ length l.piece))

abbrev pub decreases-loop-at : goal.decreases-loop-at
decreases-loop-at g l = length l.piece - l.at
