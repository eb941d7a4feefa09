-- A sum of at most 44 quarters, each under 256. Assumes nothing.
use Rattle.std.proofs.Common.{rules, arith}
use Rattle.weights.proofs.Laws.Stages.{sum_low}
use Rattle.weights.proofs.sum_of.Goals as goal

pub returns-clause-low : goal.returns-clause-low
returns-clause-low c =
    sum_low c.args.qs.now (search rules) (λ k. omega (arith, c.type_inv.qs k))
