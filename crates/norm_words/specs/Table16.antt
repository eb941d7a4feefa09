-- Table 16 as it is printed.
-- Assumes nothing.
use Rattle.std.specs.Prelude.{Bool, List, [], ◌∷◌, ◌++◌}
use Rattle.bits.specs.Bits.{word}

-- Table 16, Huffman code for differential indices: its four columns of eight
unfoldable pub table16 : List (List Bool)
table16 =
    (word 7 0b0011010 ∷ word 7 0b0111010 ∷ word 7 0b1011010 ∷ word 7 0b1111010 ∷ word 7 0b0011011 ∷ word 7 0b0111011 ∷ word 7 0b1011011 ∷ word 7 0b1111011 ∷ [])
    ++ (word 6 0b001100 ∷ word 6 0b011100 ∷ word 6 0b101100 ∷ word 6 0b111100 ∷ word 4 0b0010 ∷ word 4 0b0110 ∷ word 3 0b100 ∷ word 3 0b110 ∷ [])
    ++ (word 3 0b000 ∷ word 3 0b010 ∷ word 4 0b1010 ∷ word 4 0b1110 ∷ word 6 0b001110 ∷ word 6 0b011110 ∷ word 6 0b101110 ∷ word 6 0b111110 ∷ [])
    ++ (word 7 0b0011110 ∷ word 7 0b0111110 ∷ word 7 0b1011110 ∷ word 7 0b1111110 ∷ word 7 0b0011111 ∷ word 7 0b0111111
    ∷ word 7 0b1011111 ∷ word 7 0b1111111 ∷ [])
