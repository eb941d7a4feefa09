-- `row_search::find_code` meets its contract: the first row of the range that has the code. Assumes nothing.
use native.Mathlib.Omega.{arith}
use Rattle.row_search.proofs.Laws.Seek.{passed_none, passed_all, passed_hit, passed_more}
use Rattle.row_search.proofs.find_code.Goals as goal

pub loop-n-init : goal.loop-n-init
loop-n-init c =
    passed_all passed_none (omega arith)
