-- The highest bid of the bands passed. Assumes nothing.
use mathlib.Core.Path.{sym}
use Rattle.ground.proofs.Laws.FillingLoops.{reaching}
use Rattle.levels.proofs.Laws.LoopTurns.{bid_at_lem, highest_more, highest_none}
use Rattle.levels.proofs.top_bid.Goals as goal

pub loop-p-init : goal.loop-p-init
loop-p-init c =
    search (reaching, sym, highest_none)

pub loop-p-preserved : goal.loop-p-preserved
loop-p-preserved c =
    search (reaching, highest_more, bid_at_lem)
