-- `words::size_of` meets its contract: each column is twice the one before. Assumes nothing.
use Rattle.words.proofs.Laws.WritingTable.{size_is}
use Rattle.words.proofs.size_of.Goals as goal

pub returns : goal.returns
returns c =
    search size_is
