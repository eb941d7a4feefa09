-- `runs::write_words` meets its contract: words laid one after the other are one run of bits. Assumes nothing.
use native.Mathlib.Omega.{arith}
use Rattle.runs.proofs.Laws.Writes.{start, turn, finished, word_short}
use Rattle.runs.proofs.write_words.Goals as goal

pub loop-i-init : goal.loop-i-init
loop-i-init c =
    start (λ k. (c.type_inv.s k).fits)

pub overflow_add-n : goal.overflow_add-n
overflow_add-n c =
    omega (arith, word_short _ _ _ c.write_word-n.ensures.0)

pub loop-i-preserved : goal.loop-i-preserved
loop-i-preserved c =
    search turn

pub returns : goal.returns
returns c =
    finished c.loop-i.invariant (search)
