-- The bill of the bands passed, at most 288 each. Assumes nothing.
use mathlib.Core.Path.{sym}
use native.Mathlib.Omega.{arith}
use Rattle.ground.proofs.Laws.FillingLoops.{reaching}
use Rattle.levels.proofs.Laws.LoopTurns.{bill_low, bill_none, bill_turn}
use Rattle.levels.proofs.bill_of.Goals as goal

pub loop-p-init : goal.loop-p-init
loop-p-init c =
    search (reaching, sym, bill_none, arith)

pub loop-p-preserved : goal.loop-p-preserved
loop-p-preserved c =
    search (reaching, bill_turn, bill_low)
