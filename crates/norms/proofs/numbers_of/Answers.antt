-- `norms::numbers_of` meets its contract: each number from its index and the one before, x. Assumes nothing.
use Rattle.norms.proofs.Laws.Loops.{number_end}
use Rattle.norms.proofs.numbers_of.Goals as goal

pub returns : goal.returns
returns c =
    search number_end
