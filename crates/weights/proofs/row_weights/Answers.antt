-- The stages one after the other. Assumes nothing.
use Rattle.std.proofs.Common.{rules}
use Rattle.ground.proofs.Laws.MadeByCalls.{from_fn_table}
use Rattle.weights.proofs.Laws.Stages.{rows_made}
use Rattle.weights.proofs.row_weights.Goals as goal

pub returns : goal.returns
returns c =
    rows_made _ _ c.quarters.ensures c.rows-b24.ensures c.smoothed-b25.ensures c.turned.ensures c.smoothed.ensures c.turned-b26.ensures
    (from_fn_table c.from_fn.ensures.items (λ i y q l w. search rules)) c.scales.ensures
