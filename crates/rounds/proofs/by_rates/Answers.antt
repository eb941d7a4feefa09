-- The rounds of the bands passed, at most 256 each. Assumes nothing.
use native.Mathlib.Omega.{arith}
use Rattle.ground.proofs.Laws.FillingLoops.{reaching}
use Rattle.rounds.proofs.Laws.RoundsByRates.{own_none, own_next, own_all}
use Rattle.rounds.proofs.by_rates.Goals as goal

pub loop-p-init : goal.loop-p-init
loop-p-init c =
    search (reaching, own_none, arith)

pub loop-p-preserved : goal.loop-p-preserved
loop-p-preserved c =
    search (reaching, own_next, arith)

pub returns : goal.returns
returns c =
    search own_all
