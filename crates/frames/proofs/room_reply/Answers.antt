-- `frames::room_reply` meets its contract: the count of channels, then each room. Assumes nothing.
use mathlib.Core.Path.{sym, ◌∙◌}
use native.Mathlib.Omega.{arith}
use Prim.Native.Nat.{◌≤◌}
use Rattle.ground.proofs.Laws.Refusals.{by_rows}
use Rattle.recording.proofs.Laws.Blocks.{counted}
use Rattle.frames.specs.Rooms.{room_causes}
use Rattle.frames.proofs.room_reply.Goals as goal
use Rattle.frames.proofs.room_reply.Goals.{then-codes-channels-via-then-codes-channels, then-codes-channels-via-else-codes-channels+then-tails-channels}

pub returns-then-not-is_count : goal.returns-then-not-is_count
unfolding room_causes
returns-then-not-is_count c =
    search by_rows

pub overflow_mul-channels : goal.overflow_mul-channels
overflow_mul-channels c =
    let few : c.args.channels ≤ 8 = (counted _ (sym c.is_count.ensures ∙ c.if-not-is_count.false)).1 in
    omega (arith, few)

pub returns-then-codes-channels : goal.returns-then-codes-channels
unfolding room_causes
returns-then-codes-channels c =
    elim c.then-codes-channels.branch [
      | then-codes-channels-via-then-codes-channels w ↦ search by_rows
      | then-codes-channels-via-else-codes-channels+then-tails-channels w ↦ search by_rows
    ]

pub returns : goal.returns
unfolding room_causes
returns c =
    search by_rows
