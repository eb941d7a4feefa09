-- `decimals::put_number` meets its contract: the label, and behind it as many digits as the number has. Assumes nothing.
use mathlib.Core.Path.{ap}
use Prim.Native.Nat.{◌+◌, ◌≤◌}
use native.Mathlib.Omega.{arith}
use lib.ListN.{length, length-append}
use Rattle.ground.proofs.Laws.Laying.{laid_long, then}
use Rattle.decimals.specs.Decimals.{decimal}
use Rattle.decimals.proofs.Laws.Digits.{length_digits}
use Rattle.decimals.proofs.put_number.Goals as goal

pub put_digits-requires : goal.put_digits-requires
put_digits-requires c =
    let room : c.args.at + (length c.args.label.now + length (decimal c.args.n)) ≤ length c.args.out.now = omega (arith, c.requires, length-append c.args.label.now (decimal c.args.n)) in
    omega (arith, room, laid_long, ap length c.places.ensures, length_digits c.places.result c.args.n)

pub returns : goal.returns
returns c =
    rw c.places.ensures (then c.put-behind.ensures c.put_digits.ensures)
