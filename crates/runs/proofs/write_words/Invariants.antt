-- `runs::write_words` meets its contract: words laid one after the other are one run of bits. Assumes nothing.
use Rattle.runs.proofs.Laws.Writes.{Writing}
use Rattle.runs.proofs.write_words.Given as goal

abbrev pub invariant-loop-i : goal.invariant-loop-i
invariant-loop-i l = Writing l.initial.s l.at l.kinds l.numbers l.s l.n l.i
