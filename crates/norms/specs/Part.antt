-- The norm part of a frame as a codec: 5 bits for the first index, then 43 differences plus 15, each 5 bits (FlagN 0) or a word of Table 16
-- (FlagN 1). Reading is refused as soon as an index leaves 0 to 39.
-- Assumes nothing.
use Rattle.std.specs.Prelude.{Bool, cond, List, ◌∷◌, map, ℕ, replicate}
use Rattle.bits.specs.Codecs.{Codec, Verdict, fine, bad, checked, words, write_all}
use Rattle.words.specs.Tables.{coding, norm_words}
use Rattle.order.specs.SentOrder.{sent, banded}
use Rattle.norms.specs.Legal.{LegalNorms}
use Rattle.norms.specs.Steps.{numbers, indices}

-- the kinds of the 44 numbers
unfoldable pub norm_kinds : Bool → List ℕ
norm_kinds flag_n = 5 ∷ replicate 43 (cond flag_n norm_words 5)

abbrev pub in_bands : Bool → Verdict (List ℕ) → Verdict (List ℕ)
in_bands transient (fine ss) = fine (banded transient ss)
in_bands transient (bad x) = bad x

-- norms in band order from the numbers sent, and back
abbrev pub norms_of : Bool → List ℕ → Verdict (List ℕ)
norms_of transient ws = in_bands transient (indices 15 ws)

abbrev pub numbers_of : Bool → List ℕ → List ℕ
numbers_of transient norms = numbers 15 (sent transient norms)

-- the bits of the norm part
unfoldable pub norm_bits : Bool → Bool → List ℕ → List Bool
norm_bits transient flag_n norms = write_all (map coding (norm_kinds flag_n)) (numbers_of transient norms)

-- the numbers sent as words of their kinds; an index outside 0 to 39 is refused, and only legal norms are written
unfoldable pub norm_part : Bool → Bool → Codec (List ℕ)
norm_part transient flag_n = checked (words (map coding (norm_kinds flag_n))) (norms_of transient) (numbers_of transient) (LegalNorms transient)
