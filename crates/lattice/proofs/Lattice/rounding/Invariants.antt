-- `lattice::Lattice::rounding` meets its contract. The loop's invariant: the sum of the rounded numbers so far, and so many errors in place. Assumes nothing.
use Rattle.lattice.specs.Lattice.{x}
use Rattle.lattice.proofs.Laws.RaisedErrors.{Rounding}
use Rattle.lattice.proofs.Lattice.rounding.Given as goal

abbrev pub invariant-loop-i : goal.invariant-loop-i
unfolding x
invariant-loop-i l = Rounding l.self.r l.k l.sum l.e-items l.i
