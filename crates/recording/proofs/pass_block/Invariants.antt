-- `recording::pass_block` meets its contract: each turn passes one frame more of the block. Assumes nothing.
use Rattle.recording.proofs.Laws.BlockSoFar.{Begun}
use Rattle.recording.proofs.pass_block.Given as goal

abbrev pub invariant-loop-c : goal.invariant-loop-c
invariant-loop-c l = Begun l.src l.channels l.at l.c
