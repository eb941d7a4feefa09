-- `tails::all_clear` meets its contract: the bits passed are 0. Assumes nothing.
use Prim.Native.Nat.{◌-◌}
use Rattle.tails.proofs.Laws.Tails.{Clearing}
use Rattle.tails.proofs.all_clear.Given as goal

abbrev pub invariant-loop-p : goal.invariant-loop-p
invariant-loop-p l = Clearing l.s l.at l.end l.p

abbrev pub decreases-loop-p : goal.decreases-loop-p
decreases-loop-p l = l.end - l.p
