-- What checking blocks and taking a channel out answer (02, No. 2), over the frames of a recording: a channel is every n-th frame from its own on.
-- Assumes nothing.
use Rattle.std.specs.Prelude.{Bool, false, cond, List, ◌++◌, ℕ, ◌+◌, ◌*◌, eqb, ltb, length, drop}
use Rattle.ground.specs.Runs.{runs}
use Rattle.ground.specs.Replies.{done, short_room, wrong_channels}
use Rattle.recording.specs.Walk.{made_check}
use Rattle.recording.specs.Blocks.{is_count, walk_blocks, check_blocks}
use Rattle.recording.specs.declared.answer.Check.{Check}
use Rattle.frames.specs.Places.{frame_at}
use Rattle.channels.specs.declared.Copied.{Copied}

-- ---- the frames

-- of a recording of n channels in k blocks, channel c: every n-th frame from c on
abbrev pub extracted : ℕ → ℕ → ℕ → List ℕ → List ℕ
extracted n c k s = runs k (λ b. frame_at s (b * n + c))

-- ---- the check

-- 17 before all others
unfoldable pub check_answer : List ℕ → ℕ → ℕ → Check
check_answer src n booking = cond (is_count n) (check_blocks n src booking) (made_check wrong_channels 0 0)

-- ---- the answers

abbrev pub made_copy : ℕ → ℕ → ℕ → ℕ → ℕ → Copied
made_copy reply which count place bytes = record { reply = reply; which = which; count = count; place = place; length = bytes }

-- a reply alone
abbrev pub refused_copy : ℕ → Copied
refused_copy x = made_copy x 0 0 0 0

-- a recording's own check, of the recording with this number
abbrev pub stopped_copy : Check → ℕ → Copied
stopped_copy w which = made_copy w.reply which w.count w.place 0

-- ---- one channel taken out

-- the channel, from 0, is one of 1 to 8
unfoldable pub is_among : ℕ → ℕ → Bool
is_among n c = cond (is_count n) (ltb c n) false

-- 17, the recording's own check save 11, and last 10 for the output
unfoldable pub extract_answer : List ℕ → ℕ → ℕ → ℕ → Copied
extract_answer src n c room =
    cond (is_among n c)
    (cond (eqb (walk_blocks n src).reply 0)
    (cond (ltb room (length (extracted n c (walk_blocks n src).count src))) (refused_copy short_room)
    (made_copy done 0 (walk_blocks n src).count (walk_blocks n src).place (length (extracted n c (walk_blocks n src).count src))))
    (stopped_copy (walk_blocks n src) 0))
    (refused_copy wrong_channels)

-- bytes at the front of the output where the reply is 0, else the output as it was
abbrev pub copied_to : List ℕ → Copied → List ℕ → List ℕ
copied_to out answer bytes = cond (eqb answer.reply 0) (bytes ++ drop (length bytes) out) out

abbrev pub extract_after : List ℕ → ℕ → ℕ → List ℕ → List ℕ
extract_after src n c out = copied_to out (extract_answer src n c (length out)) (extracted n c (walk_blocks n src).count src)
