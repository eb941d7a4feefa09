-- `points::back_at` meets its contract: a number raised by a multiple of r leaves the same remainder. Assumes nothing.
use native.Mathlib.Nat.{mod-lt}
use native.Mathlib.Omega.{arith}
use Rattle.points.proofs.Laws.Signed.{read}
use Rattle.lattice.proofs.Laws.WayBack.{other_is}
use Rattle.points.proofs.back_at.Goals as goal

pub returns-else-i-eq0 : goal.returns-else-i-eq0
returns-else-i-eq0 c =
    let l = c.args.lattice in (
      other_is l.r c.args.v.now l.low l.divides c.args.i _ (omega arith) (read _ (search) c.raise.ensures.0),
      omega (arith, mod-lt c.raise.result {m = l.r} (omega arith)),
    )
