-- `choice::as_word` meets its contract. Assumes nothing.
use native.Mathlib.Omega.{arith}
use Rattle.choice.proofs.Laws.Choice.{word_yes}
use Rattle.choice.proofs.as_word.Goals as goal

pub returns-in-2-to-5 : goal.returns-in-2-to-5
returns-in-2-to-5 c =
    word_yes _ _ _ (omega arith) (omega arith) c.word_bits.ensures
