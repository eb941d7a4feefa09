-- The bill at the level found is paid by the budget: at the highest level it is nothing. Assumes nothing.
use native.Mathlib.Omega.{arith}
use Rattle.levels.proofs.Laws.LoopTurns.{bill_paid}
use Rattle.levels.proofs.level_of.Goals as goal

pub loop-bit-init : goal.loop-bit-init
loop-bit-init c =
    bill_paid _ _ (λ p h. omega (arith, c.fits-keys p))
