-- Table 20 as it is printed, and the codings that its words and those of Table 16 make.
-- Assumes nothing.
use Rattle.std.specs.Prelude.{Bool, cond, List, [], ◌∷◌, map, ℕ, zero, suc, ◌-◌, ◌^◌, ltb, get_or, take}
use Rattle.bits.specs.Bits.{word}
use Rattle.bits.specs.Codings.{Coding, fixed, prefix}
use Rattle.norm_words.specs.Table16.{table16}

-- Table 20, Huffman code for LVQ2 quantization indices: a row for each index, in it the 2-b, 3-b, 4-b and 5-b word; [] is a blank
unfoldable pub table20 : List (List (List Bool))
table20 =
    (word 1 0b0 ∷ word 2 0b00 ∷ word 2 0b00 ∷ word 2 0b00 ∷ [])
    ∷ (word 3 0b110 ∷ word 2 0b01 ∷ word 3 0b110 ∷ word 3 0b010 ∷ [])
    ∷ (word 3 0b111 ∷ word 4 0b1001 ∷ word 4 0b0110 ∷ word 4 0b1000 ∷ [])
    ∷ (word 2 0b10 ∷ word 5 0b10000 ∷ word 4 0b0111 ∷ word 5 0b10100 ∷ [])
    ∷ ([] ∷ word 5 0b10001 ∷ word 5 0b10100 ∷ word 5 0b10101 ∷ [])
    ∷ ([] ∷ word 4 0b1010 ∷ word 5 0b10101 ∷ word 6 0b110000 ∷ [])
    ∷ ([] ∷ word 4 0b1011 ∷ word 5 0b10110 ∷ word 6 0b110001 ∷ [])
    ∷ ([] ∷ word 2 0b11 ∷ word 6 0b101110 ∷ word 6 0b110010 ∷ [])
    ∷ ([] ∷ [] ∷ word 6 0b101111 ∷ word 6 0b110011 ∷ [])
    ∷ ([] ∷ [] ∷ word 5 0b10000 ∷ word 7 0b1110000 ∷ [])
    ∷ ([] ∷ [] ∷ word 5 0b10001 ∷ word 7 0b1110001 ∷ [])
    ∷ ([] ∷ [] ∷ word 5 0b10010 ∷ word 7 0b1110010 ∷ [])
    ∷ ([] ∷ [] ∷ word 5 0b10011 ∷ word 7 0b1110011 ∷ [])
    ∷ ([] ∷ [] ∷ word 4 0b0100 ∷ word 7 0b1110100 ∷ [])
    ∷ ([] ∷ [] ∷ word 4 0b0101 ∷ word 7 0b1110101 ∷ [])
    ∷ ([] ∷ [] ∷ word 3 0b111 ∷ word 7 0b1110110 ∷ [])
    ∷ ([] ∷ [] ∷ [] ∷ word 7 0b1110111 ∷ [])
    ∷ ([] ∷ [] ∷ [] ∷ word 7 0b1111000 ∷ [])
    ∷ ([] ∷ [] ∷ [] ∷ word 7 0b1111001 ∷ [])
    ∷ ([] ∷ [] ∷ [] ∷ word 7 0b1111010 ∷ [])
    ∷ ([] ∷ [] ∷ [] ∷ word 7 0b1111011 ∷ [])
    ∷ ([] ∷ [] ∷ [] ∷ word 7 0b1111100 ∷ [])
    ∷ ([] ∷ [] ∷ [] ∷ word 7 0b1111101 ∷ [])
    ∷ ([] ∷ [] ∷ [] ∷ word 7 0b1111111 ∷ [])
    ∷ ([] ∷ [] ∷ [] ∷ word 6 0b110100 ∷ [])
    ∷ ([] ∷ [] ∷ [] ∷ word 6 0b110101 ∷ [])
    ∷ ([] ∷ [] ∷ [] ∷ word 6 0b110110 ∷ [])
    ∷ ([] ∷ [] ∷ [] ∷ word 6 0b110111 ∷ [])
    ∷ ([] ∷ [] ∷ [] ∷ word 5 0b10110 ∷ [])
    ∷ ([] ∷ [] ∷ [] ∷ word 5 0b10111 ∷ [])
    ∷ ([] ∷ [] ∷ [] ∷ word 4 0b1001 ∷ [])
    ∷ ([] ∷ [] ∷ [] ∷ word 3 0b011 ∷ [])
    ∷ []

-- the words of Table 20's column for a rate of 2 to 5
unfoldable pub column_of : ℕ → List (List Bool)
column_of rate = map (λ (row : List (List Bool)). get_or row (rate - 2) []) (take (2 ^ rate) table20)

-- 01: the 5-bit column has no word 1111110
unfoldable pub lacking : List (List Bool)
lacking = word 7 0b1111110 ∷ []

-- columns 0 to 3 are Table 20's for the rates 2 to 5, every further one is Table 16
unfoldable pub words : ℕ → List (List Bool)
words zero = column_of 2
words (suc zero) = column_of 3
words (suc (suc zero)) = column_of 4
words (suc (suc (suc zero))) = column_of 5
words (suc (suc (suc (suc n)))) = table16

unfoldable pub refused : ℕ → List (List Bool)
refused zero = []
refused (suc zero) = []
refused (suc (suc zero)) = []
refused (suc (suc (suc zero))) = lacking
refused (suc (suc (suc (suc n)))) = []

abbrev pub column : ℕ → Coding
column c = prefix (words c) (refused c)

-- the kind of a coefficient word is its rate, 2 to 5, and this
abbrev pub code_words : ℕ
code_words = 14

-- the first kind that is a word, that of rate 2
abbrev pub first_words : ℕ
first_words = 16

-- the kind of a norm word
abbrev pub norm_words : ℕ
norm_words = 20

-- what stands at one place of a frame. Kinds below the first words are as many bits (of 0 bits: an unused place); then come the words of rates 2 to 5, and
-- from norm_words on those of Table 16
unfoldable pub coding : ℕ → Coding
coding kind = cond (ltb kind first_words) (fixed kind) (column (kind - first_words))
