-- The kinds whose words need no table, and two of their words at a place.
-- Assumes nothing.
use Rattle.std.specs.Prelude.{◌≡◌, Bool, true, cond, List, ℕ, ◌+◌, ◌≤◌, ◌<◌, leb}
use Rattle.bits.specs.Bits.{val, view}
use Rattle.bits.specs.Codings.{unword}
use Rattle.bits.specs.declared.Refusal.TheVariants.{Past}
use Rattle.norm_words.specs.declared.Found.{Found}
use Rattle.words.specs.Tables.{coding, norm_words}
use Rattle.words.specs.Answers.{whole_word, placed, word_at}
use Rattle.words.specs.declared.Word.{Word}
use Rattle.std.specs.declared.result.Result.{Result}
use Rattle.std.specs.declared.result.Result.TheVariants.{Ok, Err}
use Rattle.std.specs.declared.option.Option.{Option}
use Rattle.std.specs.declared.option.Option.TheVariants.{Some, None}
use Rattle.bits.specs.declared.Refusal.{Refusal}
use Rattle.short_words.specs.declared.Pair.{Pair}

-- a kind whose words need no table and have at most eight bits: as many bits, or a norm word
abbrev pub short : ℕ → Bool
short kind = cond (leb kind 8) true (leb norm_words kind)

-- the word of a kind with which eight bits begin: wherever they stand, it is read if it is whole before the end, and refused if it is cut
pub record FoundIn (eight kind : ℕ) (w : Found) : Type 0 where
  pub few : w.bits ≤ 8
  pub fits : w.number < 65536
  pub whole : (s : List ℕ) (p left : ℕ) → eight ≡ val (view s p 8) → w.bits ≤ left
      → whole_word w.number (p + w.bits) ≡ placed p left (unword (coding kind) (view s p left))
  pub cut : (s : List ℕ) (p left : ℕ) → eight ≡ val (view s p 8) → left < w.bits → Err Past ≡ placed p left (unword (coding kind) (view s p left))

-- ---- two words

-- the number of a first word, and the word behind it
abbrev pub with_second : ℕ → Result Word Refusal → Option Pair
with_second a (Ok w) = Some (record { first = a; second = w.number; next = w.next })
with_second a (Err x) = None

-- a first word, and the word of a kind behind it
abbrev pub then_second : List ℕ → ℕ → ℕ → Result Word Refusal → Option Pair
then_second s end second (Ok w) = with_second w.number (word_at s w.next end second)
then_second s end second (Err x) = None

-- the words of two kinds, one behind the other; none where one of the two is refused
unfoldable pub pair_at : List ℕ → ℕ → ℕ → ℕ → ℕ → Option Pair
pair_at s at end first second = then_second s end second (word_at s at end first)
