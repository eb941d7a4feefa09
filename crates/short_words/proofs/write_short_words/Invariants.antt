-- `short_words::write_short_words` meets its contract: two words at a time, of an even count, are one run of bits. Assumes nothing.
use Prim.Native.Nat.{◌*◌}
use Rattle.runs.proofs.Laws.Writes.{Writing}
use Rattle.short_words.proofs.write_short_words.Given as goal

abbrev pub invariant-loop-i : goal.invariant-loop-i
invariant-loop-i l = Writing l.initial.s l.at l.kinds l.numbers l.s l.n (2 * l.i)
