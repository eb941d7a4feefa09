-- Which numbers the reply of a block can be (02, No. 2): what passes each of them passes the reply.
-- Assumes nothing.
use mathlib.Core.Path.{◌≡◌, refl}
use mathlib.Core.Bool.{Bool, true}
use mathlib.Core.List.{List, [], ◌∷◌}
use Prim.Native.Nat.{ℕ, ◌<◌}
use native.Mathlib.Omega.{arith}
use lib.Dec.{T}
use lib.ListN.{length, replicate}
use Rattle.ground.proofs.Laws.Cases.{T_and}
use Rattle.ground.specs.Refusals.{said}
use Rattle.ground.proofs.Laws.Refusals.{numbers, first_number, numbers_append}
use Rattle.ground.proofs.Laws.PrintedTables.{every, every_at}
use Rattle.frame.specs.declared.Record.{Record}
use Rattle.recording.specs.Walk.{Step, stops, passes}
use Rattle.recording.specs.Blocks.{block_step, step_reply}
use Rattle.recording.proofs.Laws.Blocks.{block_stops}
use Rattle.writer.specs.Writes.{write_causes}
use Rattle.frames.specs.Rooms.{room_causes}
use Rattle.block_reader.specs.Reading as reading
use Rattle.block_writer.specs.Writing as writing
use Rattle.block_writer.specs.declared.Records.{Records}
use Rattle.block_writer.proofs.Laws.Writing.{block_numbers}

-- a block that is read: the rooms' numbers, and 0 to 7 of its frames
module _ (f : ℕ → Bool) (eight : T (every (λ (k x : ℕ). f k) 0 (replicate 8 0))) where
  below : (x : ℕ) → x < 8 → T (f x)
  below x h = every_at (λ (k x : ℕ). f k) (replicate 8 0) 0 eight x h

  pub read_numbers : (s : List ℕ) (n codes tails : ℕ) → T (numbers f (room_causes n codes tails)) → T (f (reading.block_reply s n codes tails))
  unfolding reading.block_causes
  read_numbers s n codes tails k =
      first_number f (reading.block_causes s n codes tails) (below 0 (omega arith))
      (numbers_append f (room_causes n codes tails) (said (step_reply (block_step n s)) ∷ []) k
      (T_and (f (step_reply (block_step n s))) true (frames (block_step n s) refl) tt))
    where
      frames : (o : Step) → block_step n s ≡ o → T (f (step_reply o))
      frames (stops x) e = below x (omega (arith, (block_stops n s x e).1))
      frames (passes k) e = below 0 (omega arith)

-- a block that is written: the rooms' numbers, those of a frame, and 10
pub write_numbers : (f : ℕ → Bool) (r : Records) (n : ℕ) (cs ts : List ℕ) (room : ℕ) → T (f 0) → T (numbers f (room_causes n (length cs) (length ts)))
    → ((r : Record) (cs ts : List ℕ) → T (numbers f (write_causes r cs ts 321))) → T (f 10) → T (f (writing.block_reply r n cs ts room))
write_numbers f r n cs ts room z k h b = first_number f (writing.block_causes r n cs ts room) z (block_numbers r n cs ts room f k h b)
