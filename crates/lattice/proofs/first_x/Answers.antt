-- `lattice::first_x` meets its contract: the first number, and the sum of all eight. Assumes nothing.
use Rattle.std.proofs.Common.{rules, ◌≡◌, sum}
use Rattle.std.proofs.iter.runs.Sources.{sums}
use native.Mathlib.Omega.{arith}
use Rattle.lattice.proofs.Laws.Lattice.{first_sum, sum_small}
use Rattle.lattice.proofs.first_x.Goals as goal

pub sum-requires-clause-fits : goal.sum-requires-clause-fits
sum-requires-clause-fits c =
    search (rules, sums)

pub overflow_add-result : goal.overflow_add-result
overflow_add-result c =
    let e : c.sum.result ≡ sum c.args.k.now = search rules in
    omega (arith, sum_small c.args.k.now c.told-k c.fits-k, c.fits-k 0)

pub returns : goal.returns
returns c =
    let k = c.args.k.now in
    let e : c.sum.result ≡ sum k = search rules in
    (omega (arith, first_sum k c.told-k), omega (arith, sum_small k c.told-k c.fits-k, c.fits-k 0))
