-- `block_reader::take_block` meets its contract: each turn reads one channel's frame into its own parts of the lent memory.
-- Assumes nothing.
use Rattle.block_reader.proofs.Laws.Reading.{Taken}
use Rattle.block_reader.proofs.take_block.Given as goal

abbrev pub invariant-loop-c : goal.invariant-loop-c
invariant-loop-c l = Taken l.src l.channels l.initial.codes l.initial.tails l.initial.frames l.codes l.tails l.frames l.at l.c
