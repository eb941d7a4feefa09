-- `norms::count_steps` meets its contract: three bits for each step, what its size adds, and less for those without a word. Assumes nothing.
use lib.ListN.{length}
use Rattle.norms.proofs.Laws.StepBits.{Counting, Pairs}
use Rattle.norms.proofs.count_steps.Given as goal

abbrev pub invariant-loop-pair : goal.invariant-loop-pair
invariant-loop-pair l =
    Pairs l.fn.ss l.pair-iterator.rest.now l.pair-iterator.size (length l.yielded)
    × Counting l.fn.ss l.far l.more l.lost (length l.yielded)
