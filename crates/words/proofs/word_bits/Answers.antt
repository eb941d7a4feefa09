-- `words::word_bits` meets its contract: as many bits as were spelt. Assumes nothing.
use Rattle.words.proofs.Laws.WritingTable.{written_long}
use Rattle.words.proofs.word_bits.Goals as goal

pub returns : goal.returns
returns c =
    search written_long
