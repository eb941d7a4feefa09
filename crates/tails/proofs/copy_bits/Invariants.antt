-- `tails::copy_bits` meets its contract: the bits so far are laid. Assumes nothing.
use Prim.Native.Nat.{◌-◌}
use Rattle.tails.proofs.Laws.Tails.{Copying}
use Rattle.tails.proofs.copy_bits.Given as goal

abbrev pub invariant-loop-j : goal.invariant-loop-j
invariant-loop-j l = Copying l.s l.n l.initial.out l.at l.out l.j

abbrev pub decreases-loop-j : goal.decreases-loop-j
decreases-loop-j l = l.n - l.j
