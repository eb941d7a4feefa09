-- Blocks of several channels (A.4.2; 02, No. 2): one stored frame of each channel, in order, for each 20 ms.
-- Assumes nothing.
use Rattle.std.specs.Prelude.{Bool, false, cond, List, ℕ, zero, suc, ◌+◌, eqb, ltb, drop}
use Rattle.ground.specs.Replies.{done, no_byte, cut}
use Rattle.recording.specs.Walk.{Step, stops, passes, frame_step, walk_over, most_frames, check_over}
use Rattle.recording.specs.Frames.{Frames}
use Rattle.recording.specs.Units.{Units}
use Rattle.recording.specs.declared.answer.Check.{Check}

-- 1 to 8 channels
unfoldable pub is_count : ℕ → Bool
is_count n = cond (eqb n 0) false (ltb n 9)

-- so many bytes in front
abbrev pub further : ℕ → Step → Step
further k (stops x) = stops x
further k (passes n) = passes (k + n)

-- in a block that has started, a frame that is not there is cut off: 4
abbrev pub in_block : Step → Step
in_block (stops x) = stops (cond (eqb x no_byte) cut x)
in_block (passes n) = passes n

-- a refused frame stops; behind a sound one the rest of the block follows
abbrev pub followed : Step → (ℕ → Step) → Step
followed (stops x) rest = stops x
followed (passes k) rest = further k (in_block (rest k))

-- the block of so many channels at the start
unfoldable pub block_step : ℕ → List ℕ → Step
block_step zero s = passes 0
block_step (suc n) s = followed (frame_step s) (λ k. block_step n (drop k s))

-- the number that a step answers: 0 where it passes
abbrev pub step_reply : Step → ℕ
step_reply (stops x) = x
step_reply (passes n) = done

-- a recording of so many channels: its own check save 11
abbrev pub walk_blocks : ℕ → List ℕ → Check
walk_blocks n src = walk_over (block_step n) most_frames src

-- and its check
abbrev pub check_blocks : ℕ → List ℕ → ℕ → Check
check_blocks n src booking = check_over (block_step n) src booking

-- exactly k sound blocks of n frames
abbrev pub Blocks : ℕ → ℕ → List ℕ → Type 0
Blocks n k s = Units (Frames n) k s
