-- `runs::read_words` meets its contract: the numbers read so far stand in front, and the rest of the run begins at p. Assumes nothing.
use Rattle.runs.proofs.Laws.Runs.{Reading}
use Rattle.runs.proofs.read_words.Given as goal

abbrev pub invariant-loop-i : goal.invariant-loop-i
invariant-loop-i l = Reading l.s l.at l.end l.kinds l.initial.out l.out l.p l.i
