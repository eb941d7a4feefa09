-- `lattice::worst_place` meets its contract. The loop's invariant: w is the first place of the largest so far. Assumes nothing.
use Prim.Native.Nat.{ℕ}
use lib.ListN.{get_or}
use Rattle.lattice.specs.Inner.{away}
use Rattle.lattice.proofs.Laws.Lattice.{Leading}
use Rattle.lattice.proofs.worst_place.Given as goal

abbrev pub invariant-loop-i : goal.invariant-loop-i
invariant-loop-i l = Leading (λ (j : ℕ). away (get_or l.errors j 0)) 8 l.w l.i
