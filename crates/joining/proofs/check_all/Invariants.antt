-- `joining::check_all` meets its contract: each turn checks one recording more. Assumes nothing.
use Rattle.joining.specs.Joining.{own_check}
use Rattle.joining.proofs.Laws.Joining.{Checked}
use Rattle.joining.proofs.check_all.Given as goal

abbrev pub invariant-loop-c : goal.invariant-loop-c
invariant-loop-c l = Checked (own_check l.src l.lengths) l.counts l.c
