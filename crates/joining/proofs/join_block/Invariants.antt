-- `joining::join_block` meets its contract: each turn lays the next frame of one recording more. Assumes nothing.
use Rattle.joining.proofs.Laws.Joining.{BlockSoFar}
use Rattle.joining.proofs.join_block.Given as goal

abbrev pub invariant-loop-c : goal.invariant-loop-c
invariant-loop-c l = BlockSoFar l.src l.lengths l.initial.out l.progress.block l.progress.next l.out l.places l.to l.c
