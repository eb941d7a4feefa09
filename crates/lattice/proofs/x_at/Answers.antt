-- `lattice::x_at` meets its contract: the definition of x by its two cases. Assumes nothing.
use native.Mathlib.Omega.{arith}
use Rattle.lattice.proofs.Laws.Lattice.{x_other}
use Rattle.lattice.proofs.x_at.Goals as goal

pub returns-else-i-eq0 : goal.returns-else-i-eq0
returns-else-i-eq0 c =
    (search x_other, omega arith)
