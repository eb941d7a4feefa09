-- `block_writer::put_block` meets its contract: each turn lays one frame into what is left. Assumes nothing.
use Rattle.block_writer.specs.Writing.{bytes_at}
use Rattle.block_writer.proofs.Laws.Writing.{FramesLaid}
use Rattle.block_writer.proofs.put_block.Given as goal

abbrev pub invariant-loop-c : goal.invariant-loop-c
invariant-loop-c l = FramesLaid (bytes_at l.fn.records l.codes l.tails) l.initial.out l.out l.at l.c
