-- `ground::bytes::put` meets its contract: the bytes so far are laid. Assumes nothing.
use Rattle.ground.proofs.Laws.Laying.{Putting}
use Rattle.ground.proofs.bytes.put.Given as goal

abbrev pub invariant-loop-i : goal.invariant-loop-i
invariant-loop-i l = Putting l.initial.out l.at l.text l.out l.i
