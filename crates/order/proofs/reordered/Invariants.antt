-- `order::reordered` meets its contract: a loop that fills place by place. Assumes nothing.
use Rattle.ground.proofs.Laws.FillingLoops.{Filling}
use Rattle.order.specs.SentOrder.{pick}
use Rattle.order.proofs.reordered.Given as goal

abbrev pub invariant-loop-i : goal.invariant-loop-i
invariant-loop-i l = Filling 44 (pick l.at l.fn.norms) l.out l.i
