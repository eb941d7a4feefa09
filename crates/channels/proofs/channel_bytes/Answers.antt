-- `channels::channel_bytes` meets its contract: each turn counts one frame more of the channel. Assumes nothing.
use native.Mathlib.Omega.{arith}
use Rattle.channels.proofs.Laws.Extracting.{taken_inside, counting_none, counting_more}
use Rattle.channels.proofs.channel_bytes.Goals as goal

pub loop-init : goal.loop-init
loop-init c =
    counting_none _ _ _ _ _ c.place_behind-at.ensures

pub overflow_add-n : goal.overflow_add-n
overflow_add-n c =
    omega (arith, c.loop.invariant.before, taken_inside _ _ c.loop.invariant.at_frame.inside c.frame_and_next-next.ensures.0)

pub loop-preserved : goal.loop-preserved
loop-preserved c =
    counting_more _ _ _ _ _ c.requires c.loop.invariant (omega arith) c.frame_and_next-next.ensures.0 c.frame_and_next-next.ensures.1
