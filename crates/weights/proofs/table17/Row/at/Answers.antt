-- A row of the table. Assumes nothing.
use Rattle.weights.proofs.Laws.Printed.{counted}
use Rattle.weights.proofs.table17.Row.at.Goals as goal

pub returns : goal.returns
returns c =
    counted _ c.requires
