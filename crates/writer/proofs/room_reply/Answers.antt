-- `writer::room_reply` meets its contract, in 01's order. Assumes nothing.
use native.Mathlib.Omega.{arith}
use Prim.Native.Nat.{◌+◌, ◌≤◌, ◌<◌}
use Rattle.prefix.specs.Sizes.{mode_bytes}
use Rattle.ground.proofs.Laws.Refusals.{by_rows}
use Rattle.writer.specs.Writes.{room_causes}
use Rattle.writer.proofs.room_reply.Goals as goal
use Rattle.writer.proofs.room_reply.Goals.{then-codes-lt800-via-then-codes-lt800, then-codes-lt800-via-else-codes-lt800+then-tail-lt320, then-codes-lt800-via-else-codes-lt800+else-tail-lt320+then-room-from}

pub returns-then-r-gt19 : goal.returns-then-r-gt19
unfolding room_causes
returns-then-r-gt19 c =
    search by_rows

pub returns-then-codes-lt800 : goal.returns-then-codes-lt800
unfolding room_causes
returns-then-codes-lt800 c =
    elim c.then-codes-lt800.branch [
      | then-codes-lt800-via-then-codes-lt800 w ↦ search by_rows
      | then-codes-lt800-via-else-codes-lt800+then-tail-lt320 w ↦ search by_rows
      | then-codes-lt800-via-else-codes-lt800+else-tail-lt320+then-room-from w ↦
          (let short : c.args.room < mode_bytes c.args.r.mode + 1 = omega arith in search (by_rows, short))
    ]

pub returns-then-not-is_quiet : goal.returns-then-not-is_quiet
unfolding room_causes
returns-then-not-is_quiet c =
    let wide : mode_bytes c.args.r.mode + 1 ≤ c.args.room = omega arith in
    search (by_rows, wide) depth 7

pub returns : goal.returns
unfolding room_causes
returns c =
    let wide : mode_bytes c.args.r.mode + 1 ≤ c.args.room = omega arith in
    search (by_rows, wide) depth 7
