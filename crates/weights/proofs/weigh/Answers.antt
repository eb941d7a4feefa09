-- The test of the indices, then weights and scores. Assumes nothing.
use mathlib.Core.Path.{◌∙◌, sym}
use Rattle.weights.proofs.Laws.Stages.{weighed_is, weighed_no}
use Rattle.weights.proofs.weigh.Goals as goal

pub returns-then-in_range : goal.returns-then-in_range
returns-then-in_range c =
    search (weighed_is, ◌∙◌, sym)

pub returns : goal.returns
returns c =
    weighed_no _ _ (sym c.in_range.ensures ∙ c.if-in_range.false) c.into.ensures
