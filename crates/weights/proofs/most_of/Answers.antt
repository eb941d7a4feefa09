-- The largest of the rows. Assumes nothing.
use Rattle.std.proofs.Common.{rules}
use Rattle.weights.proofs.Laws.Stages.{most_is}
use Rattle.weights.proofs.most_of.Goals as goal

pub returns : goal.returns
returns c =
    most_is c.args.ds.now c.max.result c.told-ds (search rules) (search rules) c.unwrap_or.ensures
