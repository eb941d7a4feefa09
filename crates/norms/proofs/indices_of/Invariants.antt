-- `norms::indices_of` meets its contract: the indices so far, and those of the numbers that are left. Assumes nothing.
use Rattle.norms.proofs.Laws.Loops.{Stepping}
use Rattle.norms.proofs.indices_of.Given as goal

abbrev pub invariant-loop-i : goal.invariant-loop-i
invariant-loop-i l = Stepping l.fn.ws l.norms l.x l.i
