-- `short_words::short_word` meets its contract: the first bits, or a norm word. Assumes nothing.
use Rattle.short_words.proofs.Laws.Kinds.{short_norm, short_bits}
use Rattle.short_words.proofs.Laws.ReadPairs.{fixed_in, norm_in}
use Rattle.short_words.proofs.short_word.Goals as goal

pub returns-then-kind-lt-FIRST_WORDS : goal.returns-then-kind-lt-FIRST_WORDS
returns-then-kind-lt-FIRST_WORDS c =
    fixed_in (search) (short_bits c.requires.1 (search)) c.requires.0

pub returns : goal.returns
returns c =
    norm_in (short_norm c.requires.1 (search)) c.requires.0 c.word_in.ensures
