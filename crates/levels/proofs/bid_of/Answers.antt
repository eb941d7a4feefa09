-- A bid by its cases. Assumes nothing.
use Rattle.levels.proofs.Laws.LoopTurns.{bid_made, bid_none}
use Rattle.levels.proofs.bid_of.Goals as goal

pub returns-then-rate-lt9 : goal.returns-then-rate-lt9
returns-then-rate-lt9 c =
    search bid_made

pub returns-else-size-left : goal.returns-else-size-left
returns-else-size-left c =
    bid_none _ _ _ _ c.else-size-left.either
