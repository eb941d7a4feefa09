-- Bits of bytes, top bit first (7.8, A.4.1): the bits of a number and their value, the bits at a place, bits laid at a place.
use Rattle.std.specs.Prelude.{Bool, true, false, List, [], ◌∷◌, ◌++◌, ℕ, zero, suc, ◌+◌, ◌-◌, ◌*◌, ◌/◌, ◌%◌, ◌^◌, ◌<◌, eqb, length, get_or, take, drop}
use Rattle.std.proofs.lemmas.List.Edits.{sets}

abbrev pub num : Bool → ℕ
num true = 1
num false = 0

abbrev pub odd : ℕ → Bool
odd n = eqb (n % 2) 1

-- the last n bits of v, top bit first
unfoldable pub word : ℕ → ℕ → List Bool
word zero v = []
word (suc n) v = odd (v / 2 ^ n) ∷ word n v

-- the value of some bits, top bit first
unfoldable pub val : List Bool → ℕ
val [] = 0
val (b ∷ bs) = num b * 2 ^ length bs + val bs

-- bit p of the bytes, and the n bits from p on; each bit past the end is 0
abbrev pub bit : List ℕ → ℕ → Bool
bit s p = odd (get_or s (p / 8) 0 / 2 ^ (7 - p % 8))

unfoldable pub view : List ℕ → ℕ → ℕ → List Bool
view s p zero = []
view s p (suc n) = bit s p ∷ view s (suc p) n

-- all bits of some bytes, byte after byte, and the first k bytes of some bits
unfoldable pub bits_of : List ℕ → List Bool
bits_of [] = []
bits_of (b ∷ s) = word 8 b ++ bits_of s

unfoldable pub bytes_of : ℕ → List Bool → List ℕ
bytes_of zero b = []
bytes_of (suc k) b = val (take 8 b) ∷ bytes_of k (drop 8 b)

-- the bytes with the bits w laid over theirs from p on; what would lie past the end is dropped
unfoldable pub laid : List ℕ → ℕ → List Bool → List ℕ
laid s p w = bytes_of (length s) (sets (bits_of s) p w)

-- every element is a byte
abbrev pub Bytes : List ℕ → Type 0
Bytes s = (i : ℕ) → get_or s i 0 < 256
