-- `lattice::Lattice::round_of` meets its contract: the rounded number is the quotient, since it is nearest, half downwards. Assumes nothing.
use native.Mathlib.Omega.{arith}
use native.Mathlib.Nat.{div-eq_of_lt-le, div-le_self}
use Prim.Native.Nat.{◌+◌, ◌-◌, ◌/◌}
use Rattle.lattice.proofs.Laws.Lattice.{near}
use Rattle.lattice.proofs.Lattice.round_of.Goals as goal

pub returns : goal.returns
returns c =
    let a = c.args in
    let n = near a.self.r a.x (omega arith) in
    (div-eq_of_lt-le a.self.r (omega arith) (omega arith), omega (arith, div-le_self (a.x + (a.self.r / 2 - 1)) a.self.r))
