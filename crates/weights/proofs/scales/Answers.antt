-- (28), a call for each row, between the smallest and the largest. Assumes nothing.
use Rattle.std.proofs.Common.{rules, ◌<◌, ◌≤◌, ℕ, get_or}
use Rattle.std.proofs.iter.Serving.{serving}
use Rattle.ground.proofs.Laws.MadeByCalls.{from_fn_table}
use Rattle.weights.proofs.Laws.Stages.{scaled_by, scale_room}
use Rattle.weights.proofs.scales.Goals as goal

pub from_fn-requires : goal.from_fn-requires
from_fn-requires c =
    let room : (b : ℕ) → b < 20 → (c.least_of-lo.result ≤ get_or c.args.ds.now b 0) × (get_or c.args.ds.now b 0 ≤ c.most_of-hi.result) =
    scale_room _ c.most_of-hi.ensures c.least_of-lo.ensures in
    grind (serving, room)

pub returns : goal.returns
returns c =
    from_fn_table c.from_fn.ensures.items (λ i y q l w. search (rules, scaled_by))
