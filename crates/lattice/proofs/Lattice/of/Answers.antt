-- `lattice::Lattice::of` meets its contract: the powers from 2 ^ 2 to 2 ^ 9 fit, are even, and divide 2 ^ 15. Assumes nothing.
use Rattle.lattice.proofs.Laws.Powers.{powers}
use Rattle.lattice.proofs.Lattice.of.Goals as goal

pub invariant_of-result : goal.invariant_of-result
invariant_of-result c =
    let p = powers c.args.rate c.requires.0 c.requires.1 in
    record { low = p.low; high = p.high; even = p.even; divides = p.divides }

pub returns : goal.returns
returns c =
    (powers c.args.rate c.requires.0 c.requires.1).is
