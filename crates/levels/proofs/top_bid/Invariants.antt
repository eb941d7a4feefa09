-- The highest bid of the bands passed. Assumes nothing.
use Rattle.ground.proofs.Laws.FillingLoops.{Reaching}
use Rattle.levels.specs.Inner.{bid_at, highest}
use Rattle.levels.proofs.top_bid.Given as goal

abbrev pub invariant-loop-p : goal.invariant-loop-p
invariant-loop-p l = Reaching 44 (highest (bid_at l.keys l.rates l.left)) l.top l.p
