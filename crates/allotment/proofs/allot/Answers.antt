-- The tests, then the weights, the raised scores and the contest's end. Assumes nothing.
use mathlib.Core.Path.{◌∙◌, sym}
use Rattle.allotment.proofs.Laws.Rates.{heights_room, joined, shares_no}
use Rattle.allotment.proofs.allot.Goals as goal

pub settle-ends-requires : goal.settle-ends-requires
settle-ends-requires c =
    heights_room c.args.norms c.weights_of-ws.result _ c.heights_of-heights.ensures (search) (search (◌∙◌, sym))

pub returns-then-paid : goal.returns-then-paid
returns-then-paid c =
    search (joined, ◌∙◌, sym)

pub returns : goal.returns
returns c =
    shares_no _ _ _ _ c.in_range.ensures c.else-in_range.either c.into.ensures
