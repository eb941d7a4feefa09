-- Less than eight bits serve no one; else the highest bid names its band. Assumes nothing.
use native.Mathlib.Omega.{arith}
use mathlib.Core.Path.{sym, ◌∙◌}
use Rattle.levels.proofs.Laws.LoopTurns.{best_zero, leads_on, none_short}
use Rattle.levels.proofs.leading.Goals as goal

pub returns-then-left-lt8 : goal.returns-then-left-lt8
returns-then-left-lt8 c =
    search none_short

pub returns-then-top-eq0 : goal.returns-then-top-eq0
returns-then-top-eq0 c =
    best_zero _ _ _ c.requires (sym c.top_bid-top.ensures ∙ c.if-top-eq0.true)

pub returns-else-top-eq0 : goal.returns-else-top-eq0
returns-else-top-eq0 c =
    rw c.from.ensures (leads_on _ _ _ _ c.requires c.top_bid-top.ensures (omega (arith, c.if-top-eq0.false)))
