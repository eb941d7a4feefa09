-- `points::back_list` meets its contract. The loop fills eight numbers, place by place. Assumes nothing.
use Rattle.ground.proofs.Laws.FillingLoops.{filling_done}
use Rattle.lattice.specs.Lattice.{back}
use Rattle.points.proofs.back_list.Goals as goal

pub returns : goal.returns
unfolding back
returns c =
    filling_done c.loop-i.invariant (search)
