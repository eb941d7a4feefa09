-- The bill of the bands passed, at most 288 each. Assumes nothing.
use Prim.Native.Nat.{◌*◌, ◌≤◌}
use Rattle.ground.proofs.Laws.FillingLoops.{Reaching}
use Rattle.levels.specs.Inner.{bill}
use Rattle.levels.proofs.bill_of.Given as goal

abbrev pub invariant-loop-p : goal.invariant-loop-p
invariant-loop-p l = Reaching 44 (bill l.keys l.level) l.sum l.p × (l.sum ≤ 288 * l.p)
