-- `short_words::read_short_words` meets its contract: the numbers read so far stand in front, and the rest of the run begins at p; two words are two turns.
-- Assumes nothing.
use mathlib.Core.Path.{◌≡◌}
use Prim.Native.Nat.{◌*◌}
use Rattle.runs.proofs.Laws.Runs.{Reading}
use Rattle.short_words.proofs.read_short_words.Given as goal

abbrev pub invariant-loop-i : goal.invariant-loop-i
invariant-loop-i l = Reading l.s l.at l.end l.kinds l.initial.out l.out l.p l.done × (l.done ≡ 2 * l.i)
