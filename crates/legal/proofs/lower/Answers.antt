-- `legal::lower` meets its contract: places from i on are filled, the lowest of them by `last`. Assumes nothing.
use native.Mathlib.Omega.{arith}
use borrow.Author.Rules.{rules}
use Rattle.legal.proofs.Laws.Loops.{lower_start, lower_turn, lower_end}
use Rattle.legal.proofs.lower.Goals as goal

pub loop-i-init : goal.loop-i-init
loop-i-init c =
    lower_start c.requires (search rules)

-- by the successor as it is now, not as it was
pub loop-i-preserved : goal.loop-i-preserved
loop-i-preserved c =
    lower_turn c.requires c.loop-i.invariant c.loop-i-test.true (omega arith) c.min.ensures

pub returns : goal.returns
returns c =
    lower_end (search) c.loop-i.invariant (search)
