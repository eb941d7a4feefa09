-- Each way that the test can go. Assumes nothing.
use Rattle.contest.specs.Bands.{competing}
use Rattle.levels.proofs.competes.Goals as goal

pub returns-then-wide : goal.returns-then-wide
unfolding competing
returns-then-wide c =
    rw c.if-wide.true

pub returns-else-wide : goal.returns-else-wide
unfolding competing
returns-else-wide c =
    rw c.if-wide.false
