-- `points::index_named` meets its contract: each way out is a case of the definition. Assumes nothing.
use Rattle.points.proofs.Laws.Points.{index_foreign, index_told}
use Rattle.points.proofs.index_named.Goals as goal

pub returns-in_err-lattice : goal.returns-in_err-lattice
returns-in_err-lattice c =
    index_foreign _ _ c.in_err-lattice.ensures c.from_residual.ensures

pub returns : goal.returns
returns c =
    index_told _ _ c.same.result c.in_ok-lattice.ensures c.back_list-k.ensures c.point_list.ensures c.same.ensures c.then_some.ensures
