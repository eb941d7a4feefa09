-- `short_words::read_short_words` meets its contract: the numbers read so far stand in front, and the rest of the run begins at p; two words are two turns.
-- Assumes nothing.
use native.Mathlib.Omega.{arith}
use Rattle.runs.proofs.Laws.Runs.{start}
use Rattle.short_words.proofs.Laws.Turns.{read_two, read_on}
use Rattle.short_words.proofs.read_short_words.Goals as goal

pub loop-i-init : goal.loop-i-init
loop-i-init c =
    (start, omega arith)

pub loop-i-preserved : goal.loop-i-preserved
loop-i-preserved c =
    (read_two (rw c.loop-i.invariant.1 at c.loop-i.invariant.0) c.requires.0 (omega arith) c.in-Some.ensures, omega arith)

pub returns : goal.returns
returns c =
    read_on c.loop-i.invariant.0 c.requires.0 c.read_words.ensures.0 c.read_words.ensures.1
