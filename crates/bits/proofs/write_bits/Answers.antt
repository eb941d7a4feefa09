-- `bits::write_bits` meets its contract: the three bytes of the window, changed as one number, lay the bits. Assumes nothing.
use Prim.Native.Nat.{◌-◌, ◌%◌, ◌<◌}
use native.Mathlib.Omega.{arith}
use Rattle.bits.proofs.Laws.LaidBits.{made, window_small, window_laid}
use Rattle.bits.proofs.write_bits.Goals as goal

pub overflow_add-x : goal.overflow_add-x
overflow_add-x c =
    let small : made c.window-w.result (24 - c.args.place % 8) (24 - c.args.place % 8 - c.min-n.result) c.min-n.result c.args.v < 16777216 = window_small c.args.s.now c.args.place _ c.args.v c.min-n.ensures c.window-w.ensures in
    omega (arith, small)

pub overflow_add-x-2 : goal.overflow_add-x-2
overflow_add-x-2 c =
    let small : made c.window-w.result (24 - c.args.place % 8) (24 - c.args.place % 8 - c.min-n.result) c.min-n.result c.args.v < 16777216 = window_small c.args.s.now c.args.place _ c.args.v c.min-n.ensures c.window-w.ensures in
    omega (arith, small)

pub returns : goal.returns
returns c =
    window_laid c.args.s.now c.args.place _ c.args.v c.min-n.ensures c.window-w.ensures
    (λ k. (c.slice_known-1.given k).fits) c.set_window.ensures
