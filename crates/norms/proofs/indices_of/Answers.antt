-- `norms::indices_of` meets its contract: the indices so far, and those of the numbers that are left. Assumes nothing.
use Rattle.std.proofs.Common.{arith, ◌≤◌, ◌<◌, ◌+◌}
use Rattle.std.proofs.lemmas.Grind.{common_steps}
use Rattle.norms.proofs.Laws.Loops.{step_turn, step_out, step_end}
use Rattle.norms.proofs.indices_of.Goals as goal

pub returns-then-not-contains : goal.returns-then-not-contains
returns-then-not-contains c =
    let out : 15 ≤ c.loop-i.x + c.from.result → 54 < c.loop-i.x + c.from.result = λ h. grind (arith, common_steps, c.if-not-contains.ensures.cases) in
    search step_out

pub loop-i-preserved : goal.loop-i-preserved
loop-i-preserved c =
    let lo : 15 ≤ c.loop-i.x + c.from.result = grind (arith, common_steps) in
    let hi : c.loop-i.x + c.from.result ≤ 54 = grind (arith, common_steps) in
    search step_turn

pub returns : goal.returns
returns c =
    search step_end
