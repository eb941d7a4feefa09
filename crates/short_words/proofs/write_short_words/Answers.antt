-- `short_words::write_short_words` meets its contract: two words at a time, of an even count, are one run of bits. Assumes nothing.
use native.Mathlib.Omega.{arith}
use Rattle.runs.proofs.Laws.Writes.{start, finished}
use Rattle.short_words.proofs.Laws.Turns.{lay_two, pair_short}
use Rattle.short_words.proofs.write_short_words.Goals as goal

pub loop-i-init : goal.loop-i-init
loop-i-init c =
    start (λ k. (c.type_inv.s k).fits)

pub overflow_add-n : goal.overflow_add-n
overflow_add-n c =
    omega (arith, c.loop-i.invariant.few, pair_short _ _ _ _ _ c.write_pair-n.ensures.0)

pub loop-i-preserved : goal.loop-i-preserved
loop-i-preserved c =
    lay_two c.loop-i.invariant (omega arith) (omega arith) c.requires.0 c.write_pair-n.ensures.0 c.write_pair-n.ensures.1

pub returns : goal.returns
returns c =
    finished c.loop-i.invariant (omega arith)
