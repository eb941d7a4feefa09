-- The raised scores, a call for each band. Assumes nothing.
use Rattle.std.proofs.Common.{rules, ℕ, ◌<◌, ◌≤◌, get_or}
use Rattle.std.proofs.iter.Serving.{serving}
use Rattle.ground.proofs.Laws.Indices.{range_at}
use Rattle.ground.proofs.Laws.MadeByCalls.{from_fn_table}
use Rattle.allotment.proofs.heights_of.Goals as goal

pub from_fn-requires : goal.from_fn-requires
from_fn-requires c =
    let low : (p : ℕ) → p < 44 → get_or c.args.norms.now p 0 ≤ 39 = range_at c.args.norms.now 44 c.requires.0 in
    grind (serving, low, c.requires.1)

pub returns : goal.returns
returns c =
    from_fn_table c.from_fn.ensures.items (λ i y q l w. search rules)
