-- Each turn serves the highest bid, and the contest ends alike; where no bid is left it is over. Assumes nothing.
use mathlib.Core.Path.{refl}
use native.Mathlib.Omega.{arith}
use Rattle.levels.proofs.Laws.LoopTurns.{leading_fits, lengths_range}
use Rattle.levels.proofs.Laws.Serving.{serving_next}
use Rattle.levels.proofs.serve_rest.Goals as goal

pub overflow_add-rates : goal.overflow_add-rates
overflow_add-rates c =
    omega (arith, leading_fits _ _ _ _ c.in-Some.ensures)

pub overflow_sub-left : goal.overflow_sub-left
overflow_sub-left c =
    omega (arith, leading_fits _ _ _ _ c.in-Some.ensures, c.length_of-left.ensures.0)

pub loop-q-smaller : goal.loop-q-smaller
loop-q-smaller c =
    omega (arith, leading_fits _ _ _ _ c.in-Some.ensures, c.length_of-left.ensures.0, lengths_range c.in-Some.q)

pub loop-q-preserved : goal.loop-q-preserved
loop-q-preserved c =
    serving_next c.loop-q.invariant c.in-Some.ensures refl c.length_of-left.ensures.0
