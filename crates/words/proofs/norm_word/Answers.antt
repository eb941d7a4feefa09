-- `words::norm_word` meets its contract: the word that its shape finds in the seven bits at the place, all of it or past the end. Assumes nothing.
use Rattle.words.proofs.Laws.ReadingTable.{norm_number, norm_cut, norm_fine}
use Rattle.words.proofs.norm_word.Goals as goal

pub returns-then-left-bits : goal.returns-then-left-bits
returns-then-left-bits c =
    search norm_cut

pub overflow_cast-result : goal.overflow_cast-result
overflow_cast-result c =
    record { fits = search norm_number }

pub returns : goal.returns
returns c =
    search norm_fine
