-- The bill at the level found is paid by the budget: at the highest level it is nothing. Assumes nothing.
use Prim.Native.Nat.{◌≤◌}
use Rattle.levels.specs.Inner.{bill}
use Rattle.levels.proofs.level_of.Given as goal

abbrev pub invariant-loop-bit : goal.invariant-loop-bit
invariant-loop-bit l = bill l.keys l.level 44 ≤ l.budget
