-- `layout::parts_in` meets its contract, by the tests in 01's order. Assumes nothing.
use native.Mathlib.Omega.{arith}
use mathlib.Core.Path.{◌≡◌}
use Rattle.ground.specs.Replies.{done, past_budget, wide_code}
use Rattle.ground.specs.Refusals.{first}
use Rattle.ground.proofs.Laws.Refusals.{by_rows}
use Rattle.layout.specs.Parts.{code_causes}
use Rattle.layout.proofs.Laws.Parts.{parts_no, parts_yes}
use Rattle.layout.proofs.parts_in.Goals as goal

pub returns-then-not-all_fit : goal.returns-then-not-all_fit
unfolding code_causes
returns-then-not-all_fit c =
    let said : wide_code ≡ first (code_causes c.args.budget c.args.kinds.now c.args.numbers.now) = search by_rows in
    record { said = said; parts = parts_no _ _ _ _ said (λ z. omega arith) }

pub returns-then-budget-n : goal.returns-then-budget-n
unfolding code_causes
returns-then-budget-n c =
    let said : past_budget ≡ first (code_causes c.args.budget c.args.kinds.now c.args.numbers.now) = search by_rows in
    record { said = said; parts = parts_no _ _ _ _ said (λ z. omega arith) }

pub returns : goal.returns
unfolding code_causes
returns c =
    let said : done ≡ first (code_causes c.args.budget c.args.kinds.now c.args.numbers.now) = search by_rows in
    record { said = said; parts = parts_yes _ _ _ _ said (search) }
