-- `joining::join_blocks` meets its contract: each turn lays one block more. Assumes nothing.
use mathlib.Core.Path.{◌≡◌}
use Rattle.joining.proofs.Laws.Joining.{Joining}
use Rattle.joining.proofs.join_blocks.Given as goal

abbrev pub invariant-loop : goal.invariant-loop
invariant-loop l = (l.progress.block ≡ l.counter) × Joining l.src l.lengths l.initial.out l.blocks l.out l.progress
