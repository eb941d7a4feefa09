-- (31), a call for each band. Assumes nothing.
use Rattle.std.proofs.Common.{rules}
use Rattle.ground.proofs.Laws.MadeByCalls.{from_fn_table}
use Rattle.weights.proofs.scores_of.Goals as goal

pub returns : goal.returns
returns c =
    from_fn_table c.from_fn.ensures.items (λ i y q l w. search rules)
