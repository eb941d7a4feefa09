-- `lattice::worst_place` meets its contract. The loop's invariant: w is the first place of the largest so far. Assumes nothing.
use native.Mathlib.Omega.{arith}
use Rattle.lattice.proofs.Laws.Lattice.{leading_first, leading_new, leading_kept}
use Rattle.lattice.proofs.worst_place.Goals.{then-distance, else-distance}
use Rattle.lattice.proofs.worst_place.Goals as goal

pub loop-i-init : goal.loop-i-init
loop-i-init c =
    leading_first (omega arith)

pub loop-i-preserved : goal.loop-i-preserved
loop-i-preserved c =
    let inv = c.loop-i.invariant in
    elim c.if-distance.branch [
      | then-distance w ↦ leading_new inv (search) c.distance.ensures c.distance-in-loop-i.ensures w.if-distance.true w.w-is
      | else-distance w ↦ leading_kept inv (search) c.distance.ensures c.distance-in-loop-i.ensures w.if-distance.false w.w-is
    ]
