-- `row_search::code_of` meets its contract. The loop's invariant: the sum so far, below 256 times the next place's 2 ^ i. Assumes nothing.
use Rattle.row_search.proofs.Laws.Weights.{Weighing}
use Rattle.row_search.proofs.code_of.Given as goal

abbrev pub invariant-loop-i : goal.invariant-loop-i
invariant-loop-i l = Weighing l.v l.c l.i
