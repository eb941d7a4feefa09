-- `joining::join_blocks` meets its contract: each turn lays one block more. Assumes nothing.
use mathlib.Core.Path.{refl}
use native.Mathlib.Omega.{arith}
use Rattle.joining.proofs.Laws.Joining.{places_first, joining_none, joining_stands, joining_more, joining_end}
use Rattle.joining.proofs.join_blocks.Goals as goal

pub loop-init : goal.loop-init
loop-init c =
    (refl, joining_none refl refl (places_first c.args.src.now c.args.lengths.now c.requires.0.few))

pub join_block-progress-requires : goal.join_block-progress-requires
join_block-progress-requires c =
    (joining_stands c.loop.invariant.1 c.requires.0 (omega arith) c.requires.2, omega (arith, c.requires.1))

pub loop-preserved : goal.loop-preserved
loop-preserved c = (
  omega (arith, c.join_block-progress.ensures.0),
  joining_more c.loop.invariant.1 (omega arith) c.join_block-progress.ensures.0 c.join_block-progress.ensures.1 c.join_block-progress.ensures.2,
)

pub returns : goal.returns
returns c =
    joining_end c.loop.invariant.1 (omega arith) c.requires.2
