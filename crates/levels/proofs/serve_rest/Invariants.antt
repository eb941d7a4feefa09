-- Each turn serves the highest bid, and the contest ends alike; where no bid is left it is over. Assumes nothing.
use Rattle.levels.proofs.Laws.Serving.{Serving}
use Rattle.levels.proofs.serve_rest.Given as goal

abbrev pub invariant-loop-q : goal.invariant-loop-q
invariant-loop-q l = Serving l.keys l.initial.rates l.initial.left l.rates l.left

abbrev pub decreases-loop-q : goal.decreases-loop-q
decreases-loop-q l = l.left
