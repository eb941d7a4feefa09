-- `lattice::Lattice::rounding` meets its contract. The loop's invariant: the sum of the rounded numbers so far, and so many errors in place. Assumes nothing.
use mathlib.Core.Path.{refl}
use borrow.Author.Rules.{rules}
use Rattle.lattice.specs.Lattice.{x}
use Rattle.lattice.proofs.Laws.RaisedErrors.{rounding_none, rounding_more, rounding_done}
use Rattle.lattice.proofs.Lattice.rounding.Goals as goal

pub loop-i-init : goal.loop-i-init
unfolding x
loop-i-init c =
    rounding_none refl

pub x_at-x-requires : goal.x_at-x-requires
unfolding x
x_at-x-requires c =
    search rules

pub overflow_add-sum : goal.overflow_add-sum
unfolding x
overflow_add-sum c =
    search rules

pub loop-i-preserved : goal.loop-i-preserved
unfolding x
loop-i-preserved c =
    search rounding_more

pub returns : goal.returns
unfolding x
returns c =
    let l = c.loop-i in rounding_done l.invariant (search)
