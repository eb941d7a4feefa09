-- `recording::walk_blocks` meets its contract: each turn puts one sound block more in front of the walk that is left. Assumes nothing.
use mathlib.Core.Path.{◌∙◌, ap}
use Prim.Native.Nat.{ℕ}
use native.Mathlib.Omega.{arith}
use Rattle.recording.specs.Walk.{made_check}
use Rattle.recording.proofs.Laws.Walked.{walked_end, passed_some, passed_inside, walked_more}
use Rattle.recording.proofs.Laws.Blocks.{block_unit}
use Rattle.recording.proofs.walk_blocks.Goals as goal

pub overflow_add-at : goal.overflow_add-at
overflow_add-at c =
    let told = rw c.in-Ok-Some.field-0-is at c.in-Ok-Some.ensures in
    omega (arith, passed_inside c.loop-bytes.invariant (block_unit c.args.channels c.requires) told)

pub loop-bytes-smaller : goal.loop-bytes-smaller
loop-bytes-smaller c =
    let told = rw c.in-Ok-Some.field-0-is at c.in-Ok-Some.ensures in
    let L = block_unit c.args.channels c.requires in
    omega (arith, passed_some c.loop-bytes.invariant L told, passed_inside c.loop-bytes.invariant L told)

pub loop-bytes-preserved : goal.loop-bytes-preserved
loop-bytes-preserved c =
    let told = rw c.in-Ok-Some.field-0-is at c.in-Ok-Some.ensures in
    walked_more c.loop-bytes.invariant (block_unit c.args.channels c.requires) told

pub returns-in-Ok-None : goal.returns-in-Ok-None
returns-in-Ok-None c =
    walked_end c.loop-bytes.invariant _ (rw c.in-Ok-None.field-0-is at c.in-Ok-None.ensures)

pub returns-in-Err : goal.returns-in-Err
returns-in-Err c =
    ap (λ (x : ℕ). made_check x c.loop-bytes.count c.loop-bytes.at) c.into-reply.ensures ∙ walked_end c.loop-bytes.invariant _ c.in-Err.ensures
