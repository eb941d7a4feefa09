-- `tails::fill_tail` meets its contract: each byte from its place. Assumes nothing.
use Rattle.tails.proofs.Laws.Tails.{Filling}
use Rattle.tails.proofs.fill_tail.Given as goal

abbrev pub invariant-loop-i : goal.invariant-loop-i
invariant-loop-i l = Filling l.s l.at l.initial.byte-items l.byte-items l.i
