-- The shape of Table 16 (02, No. 3), both ways: which word some bits begin with, and which word a number has.
-- Assumes nothing.
use Rattle.std.specs.Prelude.{cond, ℕ, ◌+◌, ◌-◌, ◌*◌, ◌/◌, ◌%◌, ◌^◌, eqb, ltb}
use Rattle.norm_words.specs.declared.Found.{Found}
use Rattle.norm_words.specs.declared.Spelling.{Spelling}

-- ---- reading

-- bit j of seven bits, the first being bit 1
abbrev pub bit_of : ℕ → ℕ → ℕ
bit_of j seven = seven / 2 ^ (7 - j) % 2

abbrev pub third : ℕ → ℕ
third seven = bit_of 3 seven

abbrev pub fourth : ℕ → ℕ
fourth seven = bit_of 4 seven

abbrev pub sixth : ℕ → ℕ
sixth seven = bit_of 6 seven

-- 02: "a 0 as third bit ends the word, else a 0 as fourth, else a 0 as sixth whatever the fifth is, else the word has seven bits"
abbrev pub by_end : ℕ → ℕ → ℕ → ℕ → ℕ → ℕ
by_end seven three four six all = cond (eqb (third seven) 0) three (cond (eqb (fourth seven) 0) four (cond (eqb (sixth seven) 0) six all))

-- in which four of the 32 numbers the word lies, by its end and by its first, fifth and seventh bit
abbrev pub of_three : ℕ → ℕ
of_three seven = 4 - bit_of 1 seven

abbrev pub of_four : ℕ → ℕ
of_four seven = 3 + bit_of 1 seven

abbrev pub of_six : ℕ → ℕ
of_six seven = 2 + 3 * bit_of 5 seven

abbrev pub of_seven : ℕ → ℕ
of_seven seven = 6 * bit_of 5 seven + seven % 2

-- the word with which seven bits begin; its first two bits are the last two of its number
unfoldable pub word_in : ℕ → Found
word_in seven =
    record {
      number = seven / 32 + 4 * by_end seven (of_three seven) (of_four seven) (of_six seven) (of_seven seven);
      bits = by_end seven 3 4 6 7;
    }

-- ---- writing

-- how far a number is from the middle of 0 to 31
unfoldable pub middle : ℕ → ℕ
middle v = cond (ltb v 16) (15 - v) (v - 16)

-- 1 from k on, 0 below
abbrev pub at_least : ℕ → ℕ → ℕ
at_least far k = cond (ltb far k) 0 1

-- what a word has over three bits: the four numbers in the middle nothing, two on each side of them 1, then four 3 and eight 4
unfoldable pub more_bits : ℕ → ℕ
more_bits far = at_least far 2 + 2 * at_least far 4 + at_least far 8

-- the lower or the upper half of the 32 numbers
abbrev pub half : ℕ → ℕ
half v = v / 16

-- the seven bits of which a number's word is the first: its last two bits; two that tell how far it is from the middle; its half; a third that tells how
-- far; and the next of its own bits
unfoldable pub seven_of : ℕ → ℕ → ℕ
seven_of v far = v % 4 * 32 + at_least far 2 * 16 + at_least far 4 * 8 + half v * 4 + at_least far 8 * 2 + v / 4 % 2

-- the word of a number as bits and their value; no bits from 32 on
unfoldable pub spelling : ℕ → Spelling
spelling v =
    cond (ltb 31 v) (record { bits = 0; value = 0 })
    (record { bits = 3 + more_bits (middle v); value = seven_of v (middle v) / 2 ^ (4 - more_bits (middle v)) })

-- ---- counting

-- 1 where the step from x to y is over 16, so that its number has no word
unfoldable pub beyond : ℕ → ℕ → ℕ
beyond x y = cond (ltb x y) (at_least (y - x) 17) 0

-- how far the number y + 15 - x of the step from x to y is from the middle
unfoldable pub step_size : ℕ → ℕ → ℕ
step_size x y = cond (ltb x y) (y - x - 1) (x - y)
