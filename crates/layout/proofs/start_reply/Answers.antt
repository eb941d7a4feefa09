-- `layout::start_reply` meets its contract, in 01's order. Assumes nothing.
use Rattle.ground.proofs.Laws.Refusals.{by_rows}
use Rattle.layout.specs.Parts.{start_causes}
use Rattle.layout.proofs.start_reply.Goals as goal

pub returns-then-r-gt19 : goal.returns-then-r-gt19
unfolding start_causes
returns-then-r-gt19 c =
    search by_rows

pub returns-then-codes-lt800 : goal.returns-then-codes-lt800
unfolding start_causes
returns-then-codes-lt800 c =
    search by_rows

pub returns : goal.returns
unfolding start_causes
returns c =
    let said = c.norm_reply.ensures in
    search (by_rows, said)
