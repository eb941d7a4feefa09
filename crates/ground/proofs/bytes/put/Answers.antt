-- `ground::bytes::put` meets its contract: the bytes so far are laid. Assumes nothing.
use native.Mathlib.Omega.{arith}
use Rattle.ground.proofs.Laws.Laying.{put_start, put_turn}
use Rattle.ground.proofs.bytes.put.Goals as goal

pub loop-i-init : goal.loop-i-init
loop-i-init c =
    put_start _ _ _

pub loop-i-preserved : goal.loop-i-preserved
loop-i-preserved c =
    put_turn _ _ _ _ _ (omega arith) c.loop-i.invariant
