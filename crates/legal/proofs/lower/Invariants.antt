-- `legal::lower` meets its contract: places from i on are filled, the lowest of them by `last`. Assumes nothing.
use Rattle.legal.proofs.Laws.Loops.{Lowering}
use Rattle.legal.proofs.lower.Given as goal

abbrev pub invariant-loop-i : goal.invariant-loop-i
invariant-loop-i l = Lowering l.fn.ss l.out l.i
