-- `channels::copy_channel` meets its contract: each turn lays one frame more of the channel behind the others. Assumes nothing.
use native.Mathlib.Omega.{arith}
use Rattle.channels.proofs.Laws.Extracting.{copying_none, copying_room, copying_more, copied_all}
use Rattle.channels.proofs.copy_channel.Goals as goal

pub loop-init : goal.loop-init
loop-init c =
    copying_none _ _ _ _ _ _ c.place_behind-from.ensures

pub put-to-requires : goal.put-to-requires
put-to-requires c =
    copying_room _ _ _ c.loop.invariant (omega arith) c.frame_and_next-next.ensures.0 c.requires

pub loop-preserved : goal.loop-preserved
loop-preserved c =
    copying_more _ _ _ c.loop.invariant (omega arith) c.frame_and_next-next.ensures.0 _ c.put-to.ensures c.frame_and_next-next.ensures.1

pub returns : goal.returns
returns c =
    copied_all _ _ _ c.loop.invariant (omega arith) c.requires
