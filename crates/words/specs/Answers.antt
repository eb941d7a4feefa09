-- What reading a word at a place answers.
-- Assumes nothing.
use Rattle.std.specs.Prelude.{List, ℕ, ◌+◌, ◌-◌, length}
use Rattle.ground.specs.Replies.{done}
use Rattle.bits.specs.Bits.{view}
use Rattle.bits.specs.Codings.{Answer, got, no, unword, reply_of}
use Rattle.words.specs.Tables.{coding}
use Rattle.words.specs.declared.Word.{Word}
use Rattle.std.specs.declared.result.Result.{Result}
use Rattle.std.specs.declared.result.Result.TheVariants.{Ok, Err}
use Rattle.bits.specs.declared.Refusal.{Refusal}

-- a number with its next place
abbrev pub whole_word : ℕ → ℕ → Result Word Refusal
whole_word v next = Ok (record { number = v; next = next })

-- a number with its next place, or the refusal, of a reading that began at `at` with `left` bits to read
abbrev pub placed : ℕ → ℕ → Answer ℕ → Result Word Refusal
placed at left (got v r) = whole_word v (at + (left - length r))
placed at left (no x) = Err x

-- the word of a kind at a place, all of it before the end
unfoldable pub word_at : List ℕ → ℕ → ℕ → ℕ → Result Word Refusal
word_at s at end kind = placed at (end - at) (unword (coding kind) (view s at (end - at)))

-- 01's number for an answer
abbrev pub number_of : Result Word Refusal → ℕ
number_of (Ok w) = done
number_of (Err x) = reply_of x
