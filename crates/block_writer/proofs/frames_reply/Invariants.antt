-- `block_writer::frames_reply` meets its contract: each turn tries one frame, and a cause stays. Assumes nothing.
use mathlib.Core.Path.{◌≡◌}
use Rattle.ground.specs.Refusals.{first}
use Rattle.ground.specs.Runs.{runs}
use Rattle.block_writer.specs.Writing.{causes_at}
use Rattle.block_writer.proofs.frames_reply.Given as goal

abbrev pub invariant-loop-c : goal.invariant-loop-c
invariant-loop-c l = first (runs l.c (causes_at l.fn.records l.codes l.tails)) ≡ 0
