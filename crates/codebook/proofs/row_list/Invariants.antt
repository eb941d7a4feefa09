-- `codebook::row_list` meets its contract. The loop fills eight numbers from the row's code, place by place. Assumes nothing.
use Prim.Native.Nat.{ℕ, ◌/◌, ◌%◌}
use lib.Dec.{ltb}
use Rattle.ground.proofs.Laws.FillingLoops.{Filling}
use Rattle.codebook.specs.Inner.{digit}
use Rattle.codebook.specs.Packed.{entry}
use Rattle.codebook.proofs.row_list.Given as goal

abbrev pub invariant-loop-i : goal.invariant-loop-i
invariant-loop-i l = Filling 8 (λ (j : ℕ). entry (ltb l.n 128) (digit (l.c / 256) j) (digit (l.c % 256) j)) l.z-items l.i
