-- The rooms of a block: what the reply 0 tells.
-- Assumes nothing.
use mathlib.Core.Path.{◌≡◌, sym}
use Prim.Native.Nat.{ℕ, ◌*◌, ◌≤◌}
use native.Mathlib.Omega.{arith}
use borrow.Author.Tests.{ltb-false, not-false}
use Rattle.ground.specs.Refusals.{first}
use Rattle.ground.proofs.Laws.Refusals.{by_rows, first_none}
use Rattle.recording.proofs.Laws.Blocks.{counted, is_counted}
use Rattle.frames.specs.Rooms.{room_causes}

-- 1 to 8 channels, and 800 numbers and 320 bytes for each
pub record Roomy (n codes tails : ℕ) : Type 0 where
  pub some : 1 ≤ n
  pub few : n ≤ 8
  pub numbers : n * 800 ≤ codes
  pub bytes : n * 320 ≤ tails

pub rooms_enough : {n codes tails : ℕ} → Roomy n codes tails → first (room_causes n codes tails) ≡ 0
unfolding room_causes
rooms_enough {n} {codes} {tails} r = let k = is_counted n r.some r.few in sym (search by_rows)

pub rooms_told : (n codes tails : ℕ) → first (room_causes n codes tails) ≡ 0 → Roomy n codes tails
unfolding room_causes
rooms_told n codes tails z =
    let q = first_none (room_causes n codes tails) tt z in
    let k = counted n (not-false _ (search)) in
    record { some = k.0; few = k.1; numbers = omega (arith, ltb-false); bytes = omega (arith, ltb-false) }
