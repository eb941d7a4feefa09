-- `words::column_spelling` meets its contract: no bits, or the word back from its number. Assumes nothing.
use native.Mathlib.Omega.{arith}
use Rattle.words.proofs.Laws.WritingTable.{spelt_none, spelt_word}
use Rattle.words.proofs.column_spelling.Goals as goal

pub returns-then-size_of-v : goal.returns-then-size_of-v
returns-then-size_of-v c =
    (search spelt_none, omega arith)

pub returns : goal.returns
returns c =
    (search spelt_word, omega arith)
