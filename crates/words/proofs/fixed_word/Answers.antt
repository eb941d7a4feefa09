-- `words::fixed_word` meets its contract: past the end, or as many bits. Assumes nothing.
use Rattle.bits.proofs.Laws.Views.{read_lt}
use Rattle.words.proofs.Laws.Answers.{fixed_past, fixed_whole}
use Rattle.words.proofs.fixed_word.Goals as goal

pub returns-then-left-width : goal.returns-then-left-width
returns-then-left-width c =
    search fixed_past

pub overflow_cast-result : goal.overflow_cast-result
overflow_cast-result c =
    record { fits = search read_lt }

pub returns : goal.returns
returns c =
    search fixed_whole
