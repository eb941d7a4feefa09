-- `block_writer::own` meets its contract. Assumes nothing.
use mathlib.Core.Path.{◌≡◌, refl}
use native.Mathlib.Omega.{arith}
use Prim.Native.Nat.{◌+◌, ◌*◌, ◌-◌}
use Rattle.block_writer.proofs.own.Goals as goal

pub returns : goal.returns
returns c =
    let a : c.args.c * 800 + 800 - c.args.c * 800 ≡ 800 = omega arith in
    let t : c.args.c * 320 + 320 - c.args.c * 320 ≡ 320 = omega arith in
    (rw a refl, rw t refl)
