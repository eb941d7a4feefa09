-- Four raised loudnesses, or four times one. Assumes nothing.
use Rattle.weights.proofs.Laws.Stages.{quarter_four, quarter_own}
use Rattle.weights.proofs.quarter_at.Goals as goal

pub returns-then-transient : goal.returns-then-transient
returns-then-transient c =
    search quarter_four

pub returns-else-transient : goal.returns-else-transient
returns-else-transient c =
    search quarter_own
