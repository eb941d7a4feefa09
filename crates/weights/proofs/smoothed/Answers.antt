-- (25): the rows below b are smoothed. Assumes nothing.
use Rattle.weights.proofs.Laws.Stages.{smoothing}
use Rattle.weights.proofs.smoothed.Goals as goal

pub loop-b-init : goal.loop-b-init
loop-b-init c =
    search smoothing

pub loop-b-preserved : goal.loop-b-preserved
loop-b-preserved c =
    search smoothing

pub returns : goal.returns
returns c =
    search smoothing
