-- (31), in signed numbers. Assumes nothing.
use Rattle.std.proofs.Common.{arith}
use Rattle.std.proofs.lemmas.Int.{ints}
use Rattle.weights.specs.Weights.{score, loudness}
use Rattle.weights.proofs.score_of.Goals as goal

pub returns : goal.returns
unfolding score loudness
returns c =
    omega (arith, ints)
