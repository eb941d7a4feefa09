-- `lattice::Lattice::error_of` meets its contract: r times the rounded number lies within half of r of x. Assumes nothing.
use native.Mathlib.Omega.{arith}
use Rattle.lattice.proofs.Laws.Lattice.{rounded_near}
use Rattle.lattice.proofs.Laws.RaisedErrors.{error_made}
use Rattle.lattice.proofs.Lattice.error_of.Goals as goal

pub overflow_mul-result : goal.overflow_mul-result
overflow_mul-result c =
    omega (arith, rounded_near _ c.requires.1 (omega arith))

pub overflow_sub-result : goal.overflow_sub-result
overflow_sub-result c =
    omega (arith, rounded_near _ c.requires.1 (omega arith))

pub returns : goal.returns
returns c =
    search error_made
