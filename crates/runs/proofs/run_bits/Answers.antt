-- `runs::run_bits` meets its contract: the bits of the words so far, and those of the rest. Assumes nothing.
use native.Mathlib.Omega.{arith}
use Rattle.runs.proofs.Laws.Writes.{count_turn, counted, word_short}
use Rattle.runs.proofs.run_bits.Goals as goal

pub overflow_add-n : goal.overflow_add-n
overflow_add-n c =
    omega (arith, word_short _ _ _ c.word_bits-n.ensures)

pub loop-i-preserved : goal.loop-i-preserved
loop-i-preserved c =
    search count_turn

pub returns : goal.returns
returns c =
    search counted
