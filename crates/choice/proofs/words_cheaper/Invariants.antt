-- `choice::words_cheaper` meets its contract: both costs of the places passed. Assumes nothing.
use lib.ListN.{length}
use Rattle.choice.proofs.Laws.Choice.{Costing}
use Rattle.choice.proofs.words_cheaper.Given as goal

abbrev pub invariant-loop-kind : goal.invariant-loop-kind
invariant-loop-kind l = Costing l.kinds l.numbers l.words l.fixed (length l.yielded)
