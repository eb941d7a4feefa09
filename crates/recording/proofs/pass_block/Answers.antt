-- `recording::pass_block` meets its contract: each turn passes one frame more of the block. Assumes nothing.
use native.Mathlib.Omega.{arith}
use Rattle.recording.proofs.Laws.BlockSoFar.{begun_stop, begun_next, begun_end}
use Rattle.recording.proofs.pass_block.Goals as goal

pub overflow_add-at : goal.overflow_add-at
overflow_add-at c =
    omega (arith, (begun_next c.loop-c.invariant (omega arith) c.in-Ok.ensures).inside)

pub returns-in-Err : goal.returns-in-Err
returns-in-Err c =
    begun_stop c.loop-c.invariant (omega arith) c.reply_behind.ensures c.in-Err.ensures

pub loop-c-preserved : goal.loop-c-preserved
loop-c-preserved c =
    begun_next c.loop-c.invariant (omega arith) c.in-Ok.ensures

pub returns : goal.returns
returns c =
    begun_end c.loop-c.invariant (omega arith)
