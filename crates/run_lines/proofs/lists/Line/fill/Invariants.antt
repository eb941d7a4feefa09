-- `run_lines::lists::Line::fill` stays within the lent places, and ends: each turn leaves less of the line. Assumes nothing.
use Rattle.std.proofs.Common.{◌≤◌, length}
use Rattle.run_lines.proofs.lists.Line.fill.Given as goal

abbrev pub invariant-loop-first : goal.invariant-loop-first
invariant-loop-first g l = l.n ≤ length l.initial.out

abbrev pub decreases-loop-first : goal.decreases-loop-first
decreases-loop-first g l = length l.self.rest.now
