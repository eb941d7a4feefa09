-- `lattice::Lattice::point_list` meets its contract. The loop fills eight coordinates from the errors, place by place. Assumes nothing.
use Rattle.ground.proofs.Laws.FillingLoops.{Filling}
use Rattle.lattice.specs.Lattice.{coordinate}
use Rattle.lattice.proofs.Lattice.point_list.Given as goal

abbrev pub invariant-loop-i : goal.invariant-loop-i
invariant-loop-i l = Filling 8 (coordinate l.self.r l.k) l.z-items l.i
