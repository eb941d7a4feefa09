-- `listing::put_lines` meets its contract: each step puts its line behind the lines so far. Assumes nothing.
use native.Mathlib.Omega.{arith}
use Rattle.recording.proofs.Laws.Blocks.{one_told}
use Rattle.listing.proofs.Laws.Listed.{listed_none, listed_inside, listed_room, listed_done, listed_end, listed_more}
use Rattle.listing.proofs.put_lines.Goals as goal

pub loop-bytes-init : goal.loop-bytes-init
loop-bytes-init c =
    listed_none

pub put_sound-next-requires : goal.put_sound-next-requires
put_sound-next-requires c =
    listed_room c.loop-bytes.invariant (one_told _ _ (rw c.in-Ok-Some.field-0-is at c.in-Ok-Some.ensures)) c.requires.1

pub overflow_add-place : goal.overflow_add-place
overflow_add-place c =
    let inside = listed_inside c.loop-bytes.invariant (one_told _ _ (rw c.in-Ok-Some.field-0-is at c.in-Ok-Some.ensures)) in
    omega (arith, inside)

pub loop-bytes-smaller : goal.loop-bytes-smaller
loop-bytes-smaller c =
    let inside = listed_inside c.loop-bytes.invariant (one_told _ _ (rw c.in-Ok-Some.field-0-is at c.in-Ok-Some.ensures)) in
    omega (arith, inside)

pub loop-bytes-preserved : goal.loop-bytes-preserved
loop-bytes-preserved c =
    listed_more c.loop-bytes.invariant (one_told _ _ (rw c.in-Ok-Some.field-0-is at c.in-Ok-Some.ensures)) c.put_sound-next.ensures

pub put_refused-next-requires : goal.put_refused-next-requires
put_refused-next-requires c =
    listed_room c.loop-bytes.invariant (one_told _ _ c.in-Err.ensures) c.requires.1

pub returns-in-Ok-None : goal.returns-in-Ok-None
returns-in-Ok-None c =
    listed_done c.loop-bytes.invariant (one_told _ _ (rw c.in-Ok-None.field-0-is at c.in-Ok-None.ensures))

pub returns-in-Err : goal.returns-in-Err
returns-in-Err c =
    rw c.into-reply.ensures (listed_end c.loop-bytes.invariant (one_told _ _ c.in-Err.ensures) c.put_refused-next.ensures)
