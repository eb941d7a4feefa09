-- The rounds of the bands passed, at most 256 each. Assumes nothing.
use Prim.Native.Nat.{◌*◌, ◌≤◌}
use Rattle.ground.specs.Sums.{sum_to}
use Rattle.ground.proofs.Laws.FillingLoops.{Reaching}
use Rattle.rounds.proofs.Laws.RoundsByRates.{own_rounds}
use Rattle.rounds.proofs.by_rates.Given as goal

abbrev pub invariant-loop-p : goal.invariant-loop-p
invariant-loop-p l = Reaching 44 (sum_to (own_rounds l.wide l.rates)) l.sum l.p × (l.sum ≤ 256 * l.p)
