-- `points::raised_rest` meets its contract. The loop's invariant: the sum so far, raised by 32768 for each number. Assumes nothing.
use native.Mathlib.Omega.{arith}
use Rattle.points.proofs.Laws.Signed.{read}
use Rattle.points.proofs.Laws.Points.{rest_long, raising_more, raising_done}
use Rattle.points.proofs.raised_rest.Goals as goal

pub loop-z-preserved : goal.loop-z-preserved
loop-z-preserved c =
    raising_more c.told-v c.loop-z.invariant (omega (arith, rest_long _ c.told-v)) (read _ (search) c.raise-sum.ensures.0) c.raise-sum.ensures.1

pub returns : goal.returns
returns c =
    raising_done c.loop-z.invariant (omega (arith, rest_long _ c.told-v))
