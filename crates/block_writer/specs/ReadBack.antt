-- What a block that was written reads as (02, No. 2: "Demand 2 holds per frame").
-- Assumes nothing.
use Rattle.std.specs.Prelude.{Option, None, Some, cond, List, ◌++◌, ℕ, ◌+◌, ◌*◌, eqb, drop}
use Rattle.ground.specs.Runs.{runs, part}
use Rattle.ground.specs.Replies.{done, no_data}
use Rattle.prefix.specs.Sizes.{mode_bytes}
use Rattle.frame.specs.Answers.{stopped_at}
use Rattle.frame.specs.declared.Record.{Record}
use Rattle.frame.specs.declared.Reading.{Reading}
use Rattle.block_writer.specs.Writing.{given_at, empty_at}
use Rattle.block_writer.specs.declared.Records.{Records}

-- a frame: an empty one has no record
abbrev pub read_again : Option Record → Reading
read_again None = stopped_at no_data 1
read_again (Some r) = record { reply = done; next = mode_bytes r.mode + 1; «record» = r }

-- and what is written for a frame that was read: an empty one where it says 14
abbrev pub given_again : Reading → Option Record
given_again r = cond (eqb r.reply no_data) None (Some r.«record»)

-- what channel c reads as
abbrev pub reading_back : Records → ℕ → Reading
reading_back r c = read_again (given_at r c)

-- what the lent numbers and bytes then hold: those of each frame with data, and for an empty frame what they held
abbrev pub codes_back : Records → ℕ → List ℕ → List ℕ → List ℕ
codes_back r n cs l = runs n (λ c. cond (empty_at r c) (part 800 l c) (part 800 cs c)) ++ drop (n * 800) l

abbrev pub tails_back : Records → ℕ → List ℕ → List ℕ → List ℕ
tails_back r n ts l = runs n (λ c. cond (empty_at r c) (part 320 l c) (part 320 ts c)) ++ drop (n * 320) l
