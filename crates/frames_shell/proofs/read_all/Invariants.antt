use Rattle.std.proofs.Common.{length, ◌≡◌, ◌≤◌}
use Rattle.frames_shell.proofs.read_all.Given as goal

abbrev pub invariant-loop : goal.invariant-loop
invariant-loop g l = (length l.line ≡ length l.initial.line) × (l.len ≤ length l.initial.line)
