-- (28): a quotient of at most 64. Assumes nothing.
use Rattle.weights.proofs.Laws.Stages.{scaled_other, scaled_same}
use Rattle.weights.proofs.scale.Goals as goal

pub returns-then-lo-hi : goal.returns-then-lo-hi
returns-then-lo-hi c =
    search (scaled_other, c.from.ensures, c.from-then-lo-hi.ensures)

pub returns-else-lo-hi : goal.returns-else-lo-hi
returns-else-lo-hi c =
    search scaled_same
