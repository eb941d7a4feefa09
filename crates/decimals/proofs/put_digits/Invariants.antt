-- `decimals::put_digits` meets its contract: the digits that are left, laid, make the text. Assumes nothing.
use Rattle.decimals.proofs.Laws.Digits.{Digits}
use Rattle.decimals.proofs.put_digits.Given as goal

abbrev pub invariant-loop-i : goal.invariant-loop-i
invariant-loop-i l = Digits l.initial.out l.at l.n l.k l.out l.i l.rest
