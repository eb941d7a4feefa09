-- `listing::put_lines` meets its contract: each step puts its line behind the lines so far. Assumes nothing.
use Prim.Native.Nat.{◌-◌}
use lib.ListN.{length}
use Rattle.listing.proofs.Laws.Listed.{Listed}
use Rattle.listing.proofs.put_lines.Given as goal

abbrev pub invariant-loop-bytes : goal.invariant-loop-bytes
invariant-loop-bytes l = Listed l.src l.initial.out l.out l.next l.count l.place

abbrev pub decreases-loop-bytes : goal.decreases-loop-bytes
decreases-loop-bytes l = length l.src - l.place
