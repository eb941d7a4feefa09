-- `points::raised_rest` meets its contract. The loop's invariant: the sum so far, raised by 32768 for each number. Assumes nothing.
use Rattle.points.proofs.Laws.Points.{Raising}
use Rattle.points.proofs.raised_rest.Given as goal

abbrev pub invariant-loop-z : goal.invariant-loop-z
invariant-loop-z l = Raising l.v l.sum l.z-index
