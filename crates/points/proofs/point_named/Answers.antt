-- `points::point_named` meets its contract: each way out is a case of the definition. Assumes nothing.
use Rattle.points.proofs.Laws.Points.{point_foreign, point_made, point_refused}
use Rattle.points.proofs.point_named.Goals as goal

pub returns-in_err-lattice : goal.returns-in_err-lattice
returns-in_err-lattice c =
    point_foreign _ _ c.in_err-lattice.ensures c.from_residual.ensures

pub returns-then-in_range : goal.returns-then-in_range
returns-then-in_range c =
    point_made _ _ c.in_ok-lattice.ensures c.in_range.ensures c.if-in_range.true c.point_list.ensures

pub returns-else-in_range : goal.returns-else-in_range
returns-else-in_range c =
    point_refused _ _ c.in_ok-lattice.ensures c.in_range.ensures c.if-in_range.false
