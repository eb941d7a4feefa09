-- `words::word_of` meets its contract: the number itself, a column's word, or a norm word. Assumes nothing.
use native.Mathlib.Omega.{arith}
use Rattle.words.proofs.Laws.WritingTable.{written_fixed, written_column, written_norm}
use borrow.Author.Rules.{rules}
use Rattle.words.proofs.word_of.Goals as goal

pub returns-then-kind-lt-FIRST_WORDS : goal.returns-then-kind-lt-FIRST_WORDS
returns-then-kind-lt-FIRST_WORDS c =
    (search written_fixed, omega arith)

pub returns-then-kind-lt-NORM_WORDS : goal.returns-then-kind-lt-NORM_WORDS
returns-then-kind-lt-NORM_WORDS c =
    (search written_column, search rules)

pub returns : goal.returns
returns c =
    (search written_norm, omega arith)
