-- That bits are shared fairly: the page Demand3.
-- Assumes nothing.
use native.Mathlib.Omega.{arith}
use Rattle.allotment.proofs.Laws.Fair as allotment
use Rattle.promises.specs.Demand3.{Demand3, score, rate}

pub demand3 : Demand3
demand3 transient wide norms budget indices most =
    let (answered, fair) = allotment.demand3 transient wide norms budget indices most in
    record {
      answered = answered;
      none_over_nine = fair.nine;
      none_for_idle = fair.idle;
      none_lost = fair.sum;
      none_servable = fair.short;
      none_to_quieter = fair.late;
      steps_fall = allotment.steps_fall transient wide norms budget indices most;
      none_to_quieter_rounds =
          λ band h c r.
          omega (
            arith,
            fair.late band h c r,
            allotment.cost_fair transient wide norms budget indices most (score transient wide norms budget band (rate transient wide norms budget band)),
          );
    }
