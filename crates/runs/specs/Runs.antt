-- Words one after the other at a place, as the code gives them: where a run ends or its refusal, and the numbers read so far.
-- Assumes nothing.
use Rattle.std.specs.Prelude.{Bool, List, [], ◌∷◌, ◌++◌, map, ℕ, ◌+◌, ◌-◌, length, drop}
use Rattle.bits.specs.Bits.{view}
use Rattle.ground.specs.Replies.{done}
use Rattle.bits.specs.Codings.{reply_of, Coding, Answer, got, no, unword}
use Rattle.bits.specs.Codecs.{read_all}
use Rattle.words.specs.Tables.{coding}
use Rattle.words.specs.declared.Word.{Word}
use Rattle.std.specs.declared.result.Result.{Result}
use Rattle.std.specs.declared.result.Result.TheVariants.{Ok, Err}
use Rattle.bits.specs.declared.Refusal.{Refusal}

-- the words of the kinds, all before the end
unfoldable pub run_at : List ℕ → ℕ → ℕ → List ℕ → Answer (List ℕ)
run_at s at end kinds = read_all (map coding kinds) (view s at (end - at))

-- the next place or the refusal, of a run that began at `at` with `left` bits to read
abbrev pub ran : ℕ → ℕ → Answer (List ℕ) → Result ℕ Refusal
ran at left (got vs r) = Ok (at + (left - length r))
ran at left (no x) = Err x

abbrev pub more : Answer ℕ → (List Bool → List ℕ) → List ℕ
more (got v r) f = v ∷ f r
more (no x) f = []

-- the numbers up to the first refusal
unfoldable pub some_of : List Coding → List Bool → List ℕ
some_of [] b = []
some_of (c ∷ cs) b = more (unword c b) (some_of cs)

unfoldable pub read_some : List ℕ → ℕ → ℕ → List ℕ → List ℕ
read_some s at end kinds = some_of (map coding kinds) (view s at (end - at))

-- numbers laid over the front of a list
abbrev pub over : List ℕ → List ℕ → List ℕ
over vs out = vs ++ drop (length vs) out

-- a word's refusal as the run's
abbrev pub passed_up : Result Word Refusal → Result ℕ Refusal
passed_up (Ok w) = Ok w.next
passed_up (Err x) = Err x

-- 01's number for a run
abbrev pub run_reply : Result ℕ Refusal → ℕ
run_reply (Ok p) = done
run_reply (Err x) = reply_of x
