-- `joining::join_block` meets its contract: each turn lays the next frame of one recording more. Assumes nothing.
use mathlib.Core.Path.{refl}
use native.Mathlib.Omega.{arith}
use Rattle.joining.proofs.Laws.Joining.{block_so_far_none, frame_end, frame_room, frame_more}
use Rattle.joining.proofs.join_block.Goals as goal

pub loop-c-init : goal.loop-c-init
loop-c-init c =
    block_so_far_none c.requires.0

pub overflow_add-e : goal.overflow_add-e
overflow_add-e c =
    omega (arith, frame_end c.loop-c.invariant c.requires.0.lying.few (omega arith) c.recording_at-recording.ensures refl c.size_at.ensures)

pub slice_bounds-put-end : goal.slice_bounds-put-end
slice_bounds-put-end c =
    omega (arith, frame_end c.loop-c.invariant c.requires.0.lying.few (omega arith) c.recording_at-recording.ensures refl c.size_at.ensures)

pub put-to-requires : goal.put-to-requires
put-to-requires c =
    frame_room c.loop-c.invariant c.requires.0.lying.few (omega arith) c.recording_at-recording.ensures refl c.size_at.ensures c.requires.0.room

pub loop-c-preserved : goal.loop-c-preserved
loop-c-preserved c =
    frame_more c.loop-c.invariant c.requires.0.lying.few (omega arith) c.recording_at-recording.ensures refl c.size_at.ensures c.put-to.ensures
