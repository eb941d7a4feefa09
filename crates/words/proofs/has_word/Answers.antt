-- `words::has_word` meets its contract: below 2 to the bits, below the column's size, or below 32. Assumes nothing.
use Rattle.words.proofs.Laws.WritingTable.{fit_fixed, fit_column, fit_norm}
use Rattle.words.proofs.has_word.Goals as goal

pub returns-then-kind-lt-FIRST_WORDS : goal.returns-then-kind-lt-FIRST_WORDS
returns-then-kind-lt-FIRST_WORDS c =
    search fit_fixed

pub returns-then-kind-lt-NORM_WORDS : goal.returns-then-kind-lt-NORM_WORDS
returns-then-kind-lt-NORM_WORDS c =
    search fit_column

pub returns : goal.returns
returns c =
    search fit_norm
