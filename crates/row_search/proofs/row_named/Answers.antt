-- `row_search::row_named` meets its contract: each way out is a case of the definition. Assumes nothing.
use native.Mathlib.Omega.{arith}
use Rattle.row_search.proofs.Laws.Seek.{row_missed, row_told}
use Rattle.row_search.proofs.row_named.Goals as goal

pub returns-in_err-n : goal.returns-in_err-n
returns-in_err-n c =
    row_missed _ _ (omega arith) c.code_of.ensures.0 c.in_err-n.ensures c.from_residual.ensures

pub returns : goal.returns
returns c =
    row_told _ _ (omega arith) c.code_of.ensures.0 c.same.result (omega arith) c.in_ok-n.ensures c.row_list.ensures c.same.ensures c.then_some.ensures
