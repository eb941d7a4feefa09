-- `recording::walk_blocks` meets its contract: each turn puts one sound block more in front of the walk that is left. Assumes nothing.
use Prim.Native.Nat.{◌-◌}
use lib.ListN.{length}
use Rattle.recording.specs.Blocks.{block_step}
use Rattle.recording.proofs.Laws.Walked.{Walked}
use Rattle.recording.proofs.walk_blocks.Given as goal

abbrev pub invariant-loop-bytes : goal.invariant-loop-bytes
invariant-loop-bytes l = Walked (block_step l.channels) l.src l.at l.count

abbrev pub decreases-loop-bytes : goal.decreases-loop-bytes
decreases-loop-bytes l = length l.src - l.at
