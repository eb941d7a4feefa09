-- Change No. 3 (02): norm words without the table. What is right is Table 16 as printed (table16, norm_words/specs/Table16); how the code finds, spells and
-- counts its words is the shape that 02 says (norm_words/specs/Shape). The words: `val` is the number that some bits make; word_in n is the word with which seven
-- bits of the number n begin, spelling v the word of the number v, as how many bits of which value.
-- Assumes nothing.
use Rattle.std.specs.Prelude.{◌≡◌, Bool, List, [], ◌++◌, ℕ, ◌+◌, ◌-◌, ◌≤◌, ◌<◌, length, get_or, take}
use Rattle.bits.specs.Bits.{word, val}
use Rattle.norm_words.specs.Table16.{table16}
use Rattle.norm_words.specs.Shape.{by_end, word_in, spelling, more_bits, step_size}

-- the word of a number in Table 16, which has 32
abbrev pub printed : ℕ → List Bool
printed v = get_or table16 v []

pub record NormWords : Type 0 where
  -- "A 0 as third bit ends the word, else a 0 as fourth, else a 0 as sixth whatever the fifth is, else the word has seven bits": each of the 32 words ends so,
  -- whatever bits follow it
  pub word_ends : (v : ℕ) → v < 32 → (after : List Bool) → length (printed v) + length after ≡ 7
      → by_end (val (printed v ++ after)) 3 4 6 7 ≡ length (printed v)
  -- "Read … norm words by that shape": where a word stands, whatever bits follow it, its number and its length are found …
  pub word_found : (v : ℕ) → v < 32 → (after : List Bool) → length (printed v) + length after ≡ 7
      → word_in (val (printed v ++ after)) ≡ record { number = v; bits = length (printed v) }
  -- … and whatever seven bits there are, a word of the table is found, with which they begin
  pub always_found : (seven : List Bool) → length seven ≡ 7 → let w = word_in (val seven) in (w.number < 32) × (printed w.number ≡ take w.bits seven)
  -- "… and write": each number is spelt as its word, and a number from 32 on as no bits
  pub word_spelt : (v : ℕ) → word (spelling v).bits (spelling v).value ≡ printed v
  -- the word of a difference of −15 to 16, from the index x to the index y, has as many bits as are counted for it
  pub word_counted : (x y : ℕ) → x ≤ y + 15 → y ≤ x + 16 → 3 + more_bits (step_size x y) ≡ length (printed (y + 15 - x))
