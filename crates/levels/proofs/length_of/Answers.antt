-- The lengths by band: both lists compute to the same. Assumes nothing.
use Rattle.levels.proofs.Laws.LoopTurns.{length_is, lengths_range}
use native.Mathlib.Omega.{arith}
use Rattle.levels.proofs.length_of.Goals as goal

pub returns : goal.returns
returns c =
    let e = length_is c.args.p c.requires in (e, omega (arith, e, lengths_range c.args.p))
