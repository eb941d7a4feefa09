-- The row of a band. Assumes nothing.
use mathlib.Core.Path.{◌∙◌}
use native.Mathlib.Omega.{arith}
use Rattle.weights.proofs.Laws.Printed.{row_in, row_is}
use Rattle.weights.proofs.table17.row_of.Goals as goal

pub returns : goal.returns
returns c =
    (c.from.ensures ∙ row_is _ c.requires, omega (arith, c.from.ensures, row_in _ c.requires))
