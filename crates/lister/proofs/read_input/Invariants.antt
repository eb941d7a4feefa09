-- `lister::read_input` meets its contract: what is read lies in the room, and each turn leaves less of the room. Assumes nothing.
use Prim.Native.Nat.{◌≤◌, ◌-◌}
use mathlib.Core.Path.{◌≡◌}
use lib.ListN.{length}
use Rattle.lister.proofs.read_input.Given as goal

abbrev pub invariant-loop-at : goal.invariant-loop-at
invariant-loop-at l = (length l.room ≡ length l.initial.room) × (l.at ≤ length l.room)

abbrev pub decreases-loop-at : goal.decreases-loop-at
decreases-loop-at l = length l.room - l.at
