-- `bits::window` meets its contract, by the law of three bytes. Assumes nothing.
use Rattle.std.proofs.Common.{◌+◌, arith}
use Rattle.bits.proofs.Laws.Views.{val_window}
use Rattle.bits.proofs.window.Goals as goal

pub returns-then-i-s : goal.returns-then-i-s
returns-then-i-s c =
    let i = c.args.i in
    let fit = c.type_inv.s in
    val_window _ i
    (c.from.ensures, omega (arith, (fit i).fits))
    (c.from-then-i-s.ensures, omega (arith, (fit (i + 1)).fits))
    (c.from-then-i-s-2.ensures, omega (arith, (fit (i + 2)).fits))

pub returns : goal.returns
returns c =
    search val_window
