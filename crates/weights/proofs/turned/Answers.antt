-- The rows from the last to the first. Assumes nothing.
use Rattle.weights.proofs.Laws.Stages.{turned_made}
use Rattle.weights.proofs.turned.Goals as goal

pub returns : goal.returns
returns c =
    turned_made c.args.bs (search) c.reverse.ensures.after
