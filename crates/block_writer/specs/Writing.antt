-- What writing a block answers (02, No. 2): each frame's own causes channel by channel, the output's 10 last, and the bytes of the block.
-- Assumes nothing.
use Rattle.std.specs.Prelude.{Bool, true, false, Option, None, Some, cond, List, [], ◌∷◌, ◌++◌, ℕ, eqb, ltb, length, drop, get_or}
use Rattle.ground.specs.Runs.{runs, part}
use Rattle.ground.specs.Refusals.{Cause, ◌gives◌, first}
use Rattle.ground.specs.Replies.{done, short_room}
use Rattle.frame.specs.declared.Record.{Record}
use Rattle.frame.specs.Answers.{no_record}
use Rattle.writer.specs.Writes.{write_causes, bytes_for}
use Rattle.writer.specs.declared.Writing.{Writing}
use Rattle.frames.specs.Rooms.{room_causes}
use Rattle.block_writer.specs.declared.Records.{Records}

-- channel c's frame: its record, or none where it is an empty one
abbrev pub given_at : Records → ℕ → Option Record
given_at r c = get_or r.at c None

-- the record of a channel: all 0 where its frame is an empty one
abbrev pub record_of : Option Record → Record
record_of None = no_record
record_of (Some r) = r

abbrev pub is_empty : Option Record → Bool
is_empty None = true
is_empty (Some r) = false

-- channel c's record, and whether its frame is an empty one
abbrev pub record_at : Records → ℕ → Record
record_at r c = record_of (given_at r c)

abbrev pub empty_at : Records → ℕ → Bool
empty_at r c = is_empty (given_at r c)

-- a frame's own causes, with room for the longest frame, 321 bytes; an empty one has none
abbrev pub frame_causes : Option Record → List ℕ → List ℕ → List Cause
frame_causes None cs ts = []
frame_causes (Some r) cs ts = write_causes r cs ts 321

-- its bytes: 00 for an empty one
abbrev pub frame_of : Option Record → List ℕ → List ℕ → List ℕ
frame_of None cs ts = 0 ∷ []
frame_of (Some r) cs ts = bytes_for r cs ts

-- channel c's causes and bytes: its own 800 numbers and 320 bytes
abbrev pub causes_at : Records → List ℕ → List ℕ → ℕ → List Cause
causes_at r cs ts c = frame_causes (given_at r c) (part 800 cs c) (part 320 ts c)

abbrev pub bytes_at : Records → List ℕ → List ℕ → ℕ → List ℕ
bytes_at r cs ts c = frame_of (given_at r c) (part 800 cs c) (part 320 ts c)

-- the block: one frame of each channel, in order
abbrev pub block_bytes : Records → ℕ → List ℕ → List ℕ → List ℕ
block_bytes r n cs ts = runs n (bytes_at r cs ts)

-- 17 and 10 for the call, the frames' causes channel by channel, and last 10 for the output
unfoldable pub block_causes : Records → ℕ → List ℕ → List ℕ → ℕ → List Cause
block_causes r n cs ts room =
    room_causes n (length cs) (length ts)
    ++ runs n (causes_at r cs ts)
    ++ ltb room (length (block_bytes r n cs ts)) gives short_room ∷ []

abbrev pub block_reply : Records → ℕ → List ℕ → List ℕ → ℕ → ℕ
block_reply r n cs ts room = first (block_causes r n cs ts room)

-- ---- the answer and the output, by the reply; a refusal leaves the output

abbrev pub block_answer : ℕ → Records → ℕ → List ℕ → List ℕ → Writing
block_answer reply r n cs ts = cond (eqb reply 0) (record { reply = done; next = length (block_bytes r n cs ts) }) (record { reply = reply; next = 0 })

abbrev pub out_after : ℕ → Records → ℕ → List ℕ → List ℕ → List ℕ → List ℕ
out_after reply r n cs ts out = cond (eqb reply 0) (block_bytes r n cs ts ++ drop (length (block_bytes r n cs ts)) out) out
