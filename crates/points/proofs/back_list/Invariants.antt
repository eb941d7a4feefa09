-- `points::back_list` meets its contract. The loop fills eight numbers, place by place. Assumes nothing.
use Rattle.ground.proofs.Laws.FillingLoops.{Filling}
use Rattle.lattice.specs.Lattice.{back_at}
use Rattle.points.proofs.back_list.Given as goal

abbrev pub invariant-loop-i : goal.invariant-loop-i
invariant-loop-i l = Filling 8 (back_at l.lattice.r l.v) l.n-items l.i
