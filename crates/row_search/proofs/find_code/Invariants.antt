-- `row_search::find_code` meets its contract. The loop's invariant: no row passed has the code. Assumes nothing.
use Rattle.codebook.specs.Packed.{Passed}
use Rattle.row_search.proofs.find_code.Given as goal

abbrev pub invariant-loop-n : goal.invariant-loop-n
invariant-loop-n l = Passed l.x l.first l.n
