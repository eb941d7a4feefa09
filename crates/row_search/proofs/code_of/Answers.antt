-- `row_search::code_of` meets its contract. The loop's invariant: the sum so far, below 256 times the next place's 2 ^ i. Assumes nothing.
use Rattle.row_search.proofs.Laws.Weights.{weighing_none, weighing_more, weighing_done}
use Rattle.row_search.proofs.code_of.Goals as goal

pub loop-i-init : goal.loop-i-init
loop-i-init c =
    weighing_none

pub loop-i-preserved : goal.loop-i-preserved
loop-i-preserved c =
    search weighing_more

pub returns : goal.returns
returns c =
    weighing_done c.loop-i.invariant (search)
