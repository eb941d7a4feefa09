-- `kinds::all_kinds` meets its contract: a loop that fills eight places at a time. Assumes nothing.
use native.Mathlib.Omega.{arith}
use Rattle.kinds.proofs.Laws.Kinds.{fill_turn, fill_end}
use Rattle.kinds.proofs.all_kinds.Goals as goal

pub loop-group-preserved : goal.loop-group-preserved
loop-group-preserved c =
    let f = c.fill.ensures.after (λ y e. e) in
    fill_turn c.loop-group.invariant (omega arith) (omega arith) c.band_of.ensures.0 f c.kind_of-in-loop-group.ensures c.kind_of.ensures

pub returns : goal.returns
returns c =
    fill_end c.loop-group.invariant (omega arith)
