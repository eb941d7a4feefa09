-- `runs::run_bits` meets its contract: the bits of the words so far, and those of the rest. Assumes nothing.
use Rattle.runs.proofs.Laws.Writes.{Counting}
use Rattle.runs.proofs.run_bits.Given as goal

abbrev pub invariant-loop-i : goal.invariant-loop-i
invariant-loop-i l = Counting l.kinds l.numbers l.n l.i
