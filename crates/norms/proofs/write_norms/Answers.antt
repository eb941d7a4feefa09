-- `norms::write_norms` meets its contract: the run is laid. Assumes nothing.
use Rattle.norms.proofs.Laws.Part.{bits_made, bits_laid}
use Rattle.norms.proofs.Laws.Reads.{kinds_short}
use borrow.Author.Rules.{rules}
use Rattle.norms.proofs.write_norms.Goals as goal

pub write_short_words-requires : goal.write_short_words-requires
write_short_words-requires c =
    (search rules, search rules, search rules, search kinds_short)

pub returns : goal.returns
returns c =
    (search bits_made, search bits_laid)
