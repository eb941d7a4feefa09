-- `kinds::all_kinds` meets its contract: a loop that fills eight places at a time. Assumes nothing.
use Prim.Native.Nat.{◌*◌}
use Rattle.kinds.proofs.Laws.Kinds.{Filling}
use Rattle.kinds.proofs.all_kinds.Given as goal

abbrev pub invariant-loop-group : goal.invariant-loop-group
invariant-loop-group l = Filling l.flag_c l.rates l.out (8 * l.group)
