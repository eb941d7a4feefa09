-- (27): the larger of a row and its floor, less 720 T_b. Assumes nothing.
use Rattle.weights.proofs.Laws.Stages.{excess_made}
use Rattle.weights.proofs.excess_at.Goals as goal

pub returns : goal.returns
returns c =
    search excess_made
