-- Codings of numbers as words of bits: as many bits as the coding has, or a word of a table in which no word begins another.
-- A word is read off the front of some bits.
-- Assumes nothing.
use Rattle.std.specs.Prelude.{Bool, true, false, List, [], ◌∷◌, ◌++◌, ℕ, suc, ◌^◌, ◌<◌, leb, ltb, length, get_or, take, drop}
use Rattle.std.proofs.Math.Option.{Option, some, none}
use Rattle.ground.specs.Replies.{norm_outside, no_word, past_budget}
use Rattle.bits.specs.Bits.{word, val}
use Rattle.bits.specs.declared.Refusal.{Refusal}
use Rattle.bits.specs.declared.Refusal.TheVariants.{Outside, Missing, Past}

-- the number that 01 gives a refusal
abbrev pub reply_of : Refusal → ℕ
reply_of Outside = norm_outside
reply_of Missing = no_word
reply_of Past = past_budget

-- a value and the bits after it, or a refusal
pub data Answer (A : Type 0) : Type 0 where
  got : A → List Bool → Answer A
  no : Refusal → Answer A

-- `fixed n`: the number's last n bits. `prefix t u`: the words of t, in order, name the numbers from 0 up; the words of u are refused
pub data Coding : Type 0 where
  fixed : ℕ → Coding
  prefix : List (List Bool) → List (List Bool) → Coding

-- ---- words

unfoldable pub word_of : Coding → ℕ → List Bool
word_of (fixed n) v = word n v
word_of (prefix t u) v = get_or t v []

-- the bits after the word w, if b begins with it
unfoldable pub strip : List Bool → List Bool → Option (List Bool)
strip [] b = some b
strip (true ∷ w) [] = none
strip (false ∷ w) [] = none
strip (true ∷ w) (true ∷ b) = strip w b
strip (true ∷ w) (false ∷ b) = none
strip (false ∷ w) (true ∷ b) = none
strip (false ∷ w) (false ∷ b) = strip w b

abbrev pub or_else : Option (List Bool) → ℕ → Answer ℕ → Answer ℕ
or_else (some r) k g = got k r
or_else none k g = g

-- the word of t with which b begins, the words counted from k; where there is none, b ends too soon
unfoldable pub find : List (List Bool) → ℕ → List Bool → Answer ℕ
find [] k b = no Past
find (w ∷ t) k b = or_else (strip w b) k (find t (suc k) b)

abbrev pub keep : Bool → Answer ℕ → Answer ℕ
keep true g = g
keep false g = no Missing

abbrev pub below : ℕ → Answer ℕ → Answer ℕ
below k (got v r) = keep (ltb v k) (got v r)
below k (no x) = no x

abbrev pub whole : Bool → ℕ → List Bool → Answer ℕ
whole true n b = got (val (take n b)) (drop n b)
whole false n b = no Past

unfoldable pub unword : Coding → List Bool → Answer ℕ
unword (fixed n) b = whole (leb n (length b)) n b
unword (prefix t u) b = below (length t) (find (t ++ u) 0 b)

-- v has a word
abbrev pub fit : Coding → ℕ → Bool
fit (fixed n) v = ltb v (2 ^ n)
fit (prefix t u) v = ltb v (length t)

abbrev pub Fit : Coding → ℕ → Type 0
Fit (fixed n) v = v < 2 ^ n
Fit (prefix t u) v = v < length t
