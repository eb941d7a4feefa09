-- `points::back_first` meets its contract: half of the difference, raised by a multiple of 2 r, leaves the same remainder. Assumes nothing.
use Prim.Native.Nat.{◌+◌, ◌-◌, ◌/◌}
use native.Mathlib.Nat.{mod-lt}
use native.Mathlib.Omega.{arith}
use lib.ListN.{get_or}
use lib.IntN.{pos}
use Rattle.ground.proofs.Laws.Differences.{is_same, is_sub}
use Rattle.points.proofs.Laws.Signed.{read}
use Rattle.lattice.proofs.Laws.WayBack.{first_is}
use Rattle.points.proofs.back_first.Goals as goal

pub returns : goal.returns
returns c =
    let l = c.args.lattice in
    let y = c.raise.result + 458752 - c.raised_rest.result in
    let d = is_sub (read (get_or c.args.v.now 0 (pos 0)) (search) c.raise.ensures.0) c.raised_rest.ensures.0 in
    (first_is l.r c.args.v.now l.low l.divides y (is_same _ _ d (omega arith)), omega (arith, mod-lt (y / 2) {m = l.r} (omega arith)))
