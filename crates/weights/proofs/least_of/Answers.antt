-- The smallest of the rows. Assumes nothing.
use Rattle.std.proofs.Common.{rules}
use Rattle.weights.proofs.Laws.Stages.{least_is}
use Rattle.weights.proofs.least_of.Goals as goal

pub returns : goal.returns
returns c =
    least_is c.args.ds.now c.min.result c.told-ds (search rules) (search rules) c.unwrap_or.ensures
