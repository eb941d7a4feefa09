-- `lattice::Lattice::point_list` meets its contract. The loop fills eight coordinates from the errors, place by place. Assumes nothing.
use borrow.Author.Rules.{sfits_of}
use Rattle.ground.proofs.Laws.FillingLoops.{filling_more, filling_done}
use Rattle.lattice.specs.Lattice.{point}
use Rattle.lattice.proofs.Laws.RaisedErrors.{coordinate_made}
use Rattle.lattice.proofs.Lattice.point_list.Goals as goal

pub loop-i-preserved : goal.loop-i-preserved
loop-i-preserved c =
    filling_more c.loop-i.invariant (search)
    (coordinate_made (search) c.rounding-s.ensures (search) (search) c.eq.ensures c.settle.ensures (sfits_of c.lower.type_inv) c.lower.ensures)

pub returns : goal.returns
unfolding point
returns c =
    filling_done c.loop-i.invariant (search)
