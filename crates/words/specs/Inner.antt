-- What the functions of this crate promise each other.
-- Assumes nothing.
use Rattle.std.specs.Prelude.{Bool, true, false, ◌&&◌, cond, List, [], ◌∷◌, ◌++◌, ℕ, ◌+◌, ◌*◌, ◌/◌, ◌%◌, eqb, ltb, length, get_or, take}
use Rattle.bits.specs.Bits.{word, val}
use Rattle.words.specs.Tables.{words, refused}

unfoldable pub packed : List Bool → ℕ
packed w = val w * 8 + length w

-- the same bits
abbrev pub same : List Bool → List Bool → Bool
same [] [] = true
same [] (y ∷ u) = false
same (x ∷ w) [] = false
same (true ∷ w) (true ∷ u) = same w u
same (true ∷ w) (false ∷ u) = false
same (false ∷ w) (true ∷ u) = false
same (false ∷ w) (false ∷ u) = same w u

-- word v of a column, refused ones after the others, is the first n of seven bits
unfoldable pub begins : ℕ → ℕ → ℕ → List Bool → Bool
begins c v n b = ltb v (length (words c ++ refused c)) && same (get_or (words c ++ refused c) v []) (take n b)

-- the entry of the look-up for the seven bits of a number: 8 v + n for word v, of n bits; 0 for the lacking word, of seven bits
unfoldable pub right : ℕ → ℕ → Bool
right k e =
    cond (eqb e 0) (begins (k / 128) (length (words (k / 128))) 7 (word 7 (k % 128)))
    (ltb (e / 8) (length (words (k / 128))) && begins (k / 128) (e / 8) (e % 8) (word 7 (k % 128)))
