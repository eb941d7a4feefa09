-- `codebook::row_list` meets its contract. The loop fills eight numbers from the row's code, place by place. Assumes nothing.
use native.Mathlib.Omega.{arith}
use Rattle.ground.proofs.Laws.FillingLoops.{filling_done}
use Rattle.codebook.proofs.Laws.Rows.{row_made}
use Rattle.codebook.proofs.row_list.Goals as goal

pub returns : goal.returns
returns c =
    row_made (omega arith) c.code-c.ensures.0 (filling_done c.loop-i.invariant (omega arith))
