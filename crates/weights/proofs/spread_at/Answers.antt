-- (30): a quarter of four weights, or the one. Assumes nothing.
use Rattle.weights.proofs.Laws.Stages.{spread_four, spread_own}
use Rattle.weights.proofs.spread_at.Goals as goal

pub returns-then-transient : goal.returns-then-transient
returns-then-transient c =
    search spread_four

pub returns-else-transient : goal.returns-else-transient
returns-else-transient c =
    search spread_own
