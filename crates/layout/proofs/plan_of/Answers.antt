-- `layout::plan_of` meets its contract: norm bits, budget, rates and kinds. Assumes nothing.
use native.Mathlib.Omega.{arith}
use Rattle.layout.proofs.Laws.Parts.{plan_code, norm_room}
use Rattle.layout.proofs.plan_of.Goals as goal

pub overflow_add-at : goal.overflow_add-at
overflow_add-at c =
    omega (arith, norm_room _ _ _ _ c.norm_bits-at.ensures)

pub returns : goal.returns
returns c =
    search plan_code
