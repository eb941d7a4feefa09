-- `norms::steps_of` meets its contract: what was counted in sent order. Assumes nothing.
use Rattle.norms.specs.Answers.{word_total}
use Rattle.norms.specs.Inner.{step_total}
use Rattle.norms.proofs.Laws.StepBits.{counted_sent}
use Rattle.norms.proofs.steps_of.Goals as goal

pub returns : goal.returns
unfolding word_total step_total
returns c =
    counted_sent c.count_steps.result.far _ c.sent_order.ensures c.count_steps.ensures
