-- `short_words::write_pair` meets its contract: two words made one are laid at once. Assumes nothing.
use Rattle.short_words.proofs.Laws.WrittenPairs.{pair_long, pair_laid}
use Rattle.short_words.proofs.write_pair.Goals as goal

pub returns : goal.returns
returns c =
    let a = c.short_spelling-x.ensures in
    let b = c.short_spelling-y.ensures in
    (pair_long a b, pair_laid a b _ _ _ c.write_bits.ensures)
