-- `legal::hold` meets its contract: places up to i are filled, the highest of them by `last`. Assumes nothing.
use borrow.Author.Rules.{rules}
use Rattle.legal.proofs.Laws.Loops.{hold_start, hold_turn, hold_end}
use Rattle.legal.proofs.hold.Goals as goal

pub loop-i-init : goal.loop-i-init
loop-i-init c =
    hold_start c.requires (search rules)

pub loop-i-preserved : goal.loop-i-preserved
loop-i-preserved c =
    search hold_turn

pub returns : goal.returns
returns c =
    search hold_end
