-- `words::read_word` meets its contract: nothing at an unused place, as many bits, a column's word, or a norm word. Assumes nothing.
use mathlib.Core.Path.{◌∙◌}
use Rattle.words.proofs.Laws.Answers.{at_none, at_fixed, at_column, at_norm}
use Rattle.words.proofs.read_word.Goals as goal

pub returns-then-kind-eq0 : goal.returns-then-kind-eq0
returns-then-kind-eq0 c =
    search at_none

pub returns-then-kind-lt-FIRST_WORDS : goal.returns-then-kind-lt-FIRST_WORDS
returns-then-kind-lt-FIRST_WORDS c =
    search (at_fixed, ◌∙◌)

pub returns-then-kind-lt-NORM_WORDS : goal.returns-then-kind-lt-NORM_WORDS
returns-then-kind-lt-NORM_WORDS c =
    search (at_column, ◌∙◌)

pub returns : goal.returns
returns c =
    search (at_norm, ◌∙◌)
