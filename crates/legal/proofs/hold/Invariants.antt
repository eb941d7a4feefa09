-- `legal::hold` meets its contract: places up to i are filled, the highest of them by `last`. Assumes nothing.
use Rattle.legal.proofs.Laws.Loops.{Holding}
use Rattle.legal.proofs.hold.Given as goal

abbrev pub invariant-loop-i : goal.invariant-loop-i
invariant-loop-i l = Holding l.fn.ss l.out l.i
