-- `words::write_word` meets its contract: what was spelt is laid. Assumes nothing.
use Rattle.words.proofs.Laws.WritingTable.{written_long, written_laid, none_long, none_laid}
use Rattle.words.proofs.write_word.Goals as goal

pub returns-then-kind-eq0 : goal.returns-then-kind-eq0
returns-then-kind-eq0 c =
    (search none_long, none_laid _ _ _ _ (search) (λ i. (c.type_inv.s i).fits))

pub returns : goal.returns
returns c =
    (search written_long, search written_laid)
