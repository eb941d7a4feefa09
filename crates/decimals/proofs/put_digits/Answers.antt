-- `decimals::put_digits` meets its contract: the digits that are left, laid, make the text. Assumes nothing.
use Rattle.decimals.proofs.Laws.Digits.{digits_turn, digits_end}
use Rattle.decimals.proofs.put_digits.Goals as goal

pub loop-i-preserved : goal.loop-i-preserved
loop-i-preserved c =
    let a = c.args in
    let l = c.loop-i in
    digits_turn a.out.now a.at a.n a.k l.out l.i l.rest c.loop-i-test.true l.invariant

pub returns : goal.returns
returns c =
    let a = c.args in let l = c.loop-i in digits_end a.out.now a.at a.n a.k l.out l.i l.rest c.loop-i-test.false l.invariant
