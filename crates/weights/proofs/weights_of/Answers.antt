-- The rows of the paper, laid out over the bands and spread. Assumes nothing.
use Rattle.std.proofs.Common.{rules, ◌≡◌}
use Rattle.ground.specs.ListsByRule.{table}
use Rattle.ground.proofs.Laws.MadeByCalls.{from_fn_table}
use Rattle.weights.specs.Weights.{spread}
use Rattle.weights.proofs.Laws.RaisedNumbers.{weights_made}
use Rattle.weights.proofs.Laws.Stages.{weights_low}
use Rattle.weights.proofs.weights_of.Goals as goal

pub returns : goal.returns
returns c =
    let made : c.from_fn.result ≡ table 44 (spread c.args.transient c.laid-ws.result) =
    from_fn_table c.from_fn.ensures.items (λ i y q l w. search rules) in
    (weights_made _ _ c.requires c.row_weights.ensures c.laid-ws.ensures made, weights_low _ _ c.row_weights.ensures c.laid-ws.ensures made)
