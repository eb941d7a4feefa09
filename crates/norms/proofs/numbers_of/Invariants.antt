-- `norms::numbers_of` meets its contract: each number from its index and the one before, x. Assumes nothing.
use Rattle.norms.proofs.Laws.Loops.{Numbering}
use Rattle.norms.proofs.numbers_of.Given as goal

abbrev pub invariant-loop-i : goal.invariant-loop-i
invariant-loop-i l = Numbering l.fn.ss l.out l.x l.i
