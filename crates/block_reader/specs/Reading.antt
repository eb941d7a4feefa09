-- What reading a block answers (02, No. 2): the reply, what each channel's frame reads as, and the lent memory afterwards.
-- Assumes nothing.
use Rattle.std.specs.Prelude.{cond, List, [], ◌∷◌, ◌++◌, ℕ, ◌-◌, ◌*◌, eqb, replicate, drop}
use Rattle.ground.specs.ListsByRule.{table}
use Rattle.ground.specs.Runs.{runs, part}
use Rattle.ground.specs.Refusals.{Cause, said, first}
use Rattle.ground.specs.Replies.{done}
use Rattle.frame.specs.Answers as frame
use Rattle.frame.specs.Answers.{Outcome, reading_of, stopped_at}
use Rattle.recording.specs.Walk.{stored_at}
use Rattle.recording.specs.Blocks.{block_step, step_reply}
use Rattle.frames.specs.Places.{place_of}
use Rattle.frames.specs.Rooms.{room_causes}
use Rattle.block_reader.specs.declared.Block.{Block}

-- 17, 10, then what the frames say
unfoldable pub block_causes : List ℕ → ℕ → ℕ → ℕ → List Cause
block_causes s n codes tails = room_causes n codes tails ++ said (step_reply (block_step n s)) ∷ []

abbrev pub block_reply : List ℕ → ℕ → ℕ → ℕ → ℕ
block_reply s n codes tails = first (block_causes s n codes tails)

-- what channel c's frame reads as
abbrev pub channel_at : List ℕ → ℕ → Outcome
channel_at s c = stored_at (drop (place_of s c) s)

abbrev pub no_block : ℕ → Block
no_block x = record { reply = x; next = 0; frames = replicate 8 (stopped_at 0 0) }

-- the readings channel by channel; past the count all 0
abbrev pub block_of : List ℕ → ℕ → Block
block_of s n = record { reply = done; next = place_of s n; frames = table n (λ c. reading_of (channel_at s c)) ++ replicate (8 - n) (stopped_at 0 0) }

-- the lent memory channel by channel: that of an empty frame stays as it was
abbrev pub codes_of : List ℕ → ℕ → List ℕ → List ℕ
codes_of s n l = runs n (λ c. frame.codes_after (part 800 l c) (channel_at s c)) ++ drop (n * 800) l

abbrev pub tails_of : List ℕ → ℕ → List ℕ → List ℕ
tails_of s n l = runs n (λ c. frame.tail_after (part 320 l c) (channel_at s c)) ++ drop (n * 320) l

-- ---- the answer, by the reply; a refusal leaves lent memory

abbrev pub block_answer : ℕ → List ℕ → ℕ → Block
block_answer reply s n = cond (eqb reply 0) (block_of s n) (no_block reply)

abbrev pub codes_after : ℕ → List ℕ → ℕ → List ℕ → List ℕ
codes_after reply s n l = cond (eqb reply 0) (codes_of s n l) l

abbrev pub tails_after : ℕ → List ℕ → ℕ → List ℕ → List ℕ
tails_after reply s n l = cond (eqb reply 0) (tails_of s n l) l
