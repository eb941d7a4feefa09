-- (25): the rows below b are smoothed. Assumes nothing.
use Rattle.weights.proofs.Laws.Stages.{Smoothing}
use Rattle.weights.proofs.smoothed.Given as goal

abbrev pub invariant-loop-b : goal.invariant-loop-b
invariant-loop-b l = Smoothing l.by l.initial.bs l.bs l.b
