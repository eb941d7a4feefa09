-- One-channel recordings joined (02, No. 2): each is checked by itself, then one frame of each in turn, block by block.
-- Assumes nothing.
use Rattle.std.specs.Prelude.{Bool, true, false, cond, List, ℕ, zero, suc, ◌+◌, ◌≤◌, ◌<◌, eqb, ltb, length, take, drop}
use Rattle.ground.specs.Runs.{runs}
use Rattle.ground.specs.Sums.{nth, sum_to}
use Rattle.ground.specs.Replies.{done, short_room, wrong_channels}
use Rattle.recording.specs.Walk.{most_frames}
use Rattle.recording.specs.Frames.{Frames}
use Rattle.recording.specs.Blocks.{is_count, walk_blocks}
use Rattle.recording.specs.declared.answer.Check.{Check}
use Rattle.frames.specs.Places.{frame_at}
use Rattle.channels.specs.declared.Copied.{Copied}
use Rattle.channels.specs.Copies.{made_copy, refused_copy, stopped_copy, copied_to}

-- block b of n recordings: the frame b of each
abbrev pub block_of : ℕ → (ℕ → List ℕ) → ℕ → List ℕ
block_of n r b = runs n (λ c. frame_at (r c) b)

-- n recordings of k frames, joined
abbrev pub joined : ℕ → ℕ → (ℕ → List ℕ) → List ℕ
joined n k r = runs k (block_of n r)

-- ---- recordings joined

-- the recordings lie one behind the other, each as long as its length says
abbrev pub start_of : List ℕ → ℕ → ℕ
start_of lengths c = sum_to (nth lengths) c

abbrev pub recording_at : List ℕ → List ℕ → ℕ → List ℕ
recording_at src lengths c = take (nth lengths c) (drop (start_of lengths c) src)

-- recording c's own check save 11
abbrev pub own_check : List ℕ → List ℕ → ℕ → Check
own_check src lengths c = walk_blocks 1 (recording_at src lengths c)

-- the first that has a reply
abbrev pub first_copy : Copied → Copied → Copied
first_copy a b = cond (eqb a.reply 0) b a

-- the first of n recordings that is refused, with its number from 1; 0 where none is
unfoldable pub refused_in : (ℕ → Check) → ℕ → Copied
refused_in w zero = refused_copy done
refused_in w (suc n) = first_copy (refused_in w n) (cond (eqb (w n).reply 0) (refused_copy done) (stopped_copy (w n) (n + 1)))

-- all n recordings have k frames
unfoldable pub equal_counts : (ℕ → Check) → ℕ → ℕ → Bool
equal_counts w k zero = true
equal_counts w k (suc n) = cond (eqb (w n).count k) (equal_counts w k n) false

-- each recording's own check, then 17 for unequal counts; else 0 with the common count
unfoldable pub check_all : (ℕ → Check) → ℕ → Copied
check_all w n = first_copy (refused_in w n) (cond (equal_counts w (w 0).count n) (made_copy done 0 (w 0).count 0 0) (refused_copy wrong_channels))

-- the joined recording
abbrev pub joined_of : List ℕ → List ℕ → List ℕ
joined_of src lengths = joined (length lengths) (own_check src lengths 0).count (recording_at src lengths)

-- 17 for the count of lengths, 10 where they go past the source, the recordings' checks and counts, and last 10 for the output
unfoldable pub join_answer : List ℕ → List ℕ → ℕ → Copied
join_answer src lengths room =
    cond (is_count (length lengths))
    (cond (ltb (length src) (start_of lengths (length lengths))) (refused_copy short_room)
    (first_copy (check_all (own_check src lengths) (length lengths))
    (cond (ltb room (length (joined_of src lengths))) (refused_copy short_room)
    (made_copy done 0 (own_check src lengths 0).count 0 (length (joined_of src lengths))))))
    (refused_copy wrong_channels)

abbrev pub join_after : List ℕ → List ℕ → List ℕ → List ℕ
join_after src lengths out = copied_to out (join_answer src lengths (length out)) (joined_of src lengths)

-- the recordings lie in the source, and are at most eight
pub record InSource (src lengths : List ℕ) : Type 0 where
  pub few : length lengths ≤ 8
  pub inside : start_of lengths (length lengths) ≤ length src

-- 1 to 8 sound recordings of k frames each, one behind the other in the source
pub record Joinable (src lengths : List ℕ) (k : ℕ) : Type 0 where
  pub some : 1 ≤ length lengths
  pub most : length lengths ≤ 8
  pub inside : start_of lengths (length lengths) ≤ length src
  pub few : k ≤ most_frames
  pub sound : (c : ℕ) → c < length lengths → Frames k (recording_at src lengths c)
