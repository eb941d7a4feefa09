-- What stands at each of the 800 places of a record (01, Coefficient codes): by the rate of the place's band.
-- Assumes nothing.
use Rattle.std.specs.Prelude.{Bool, cond, ◌&&◌, List, ℕ, ◌+◌, ◌%◌, leb, eqb, get_or, replicate}
use Rattle.ground.specs.ListsByRule.{table}
use Rattle.ground.specs.Runs.{runs}
use Rattle.words.specs.Tables.{code_words}
use Rattle.contest.specs.Bands.{length_of}

-- the bands of the 800 places: band after band, as many places as the band is long
unfoldable pub place_bands : List ℕ
place_bands = runs 44 (λ band. replicate (length_of band) band)

unfoldable pub band_of : ℕ → ℕ
band_of i = get_or place_bands i 0

-- Rate 0: nothing. Rate 1: one 8-bit index in the first of eight places. Rates 2–9: that many bits, or, if FlagC is 1 and the rate is 2–5, a word
-- of Table 20
unfoldable pub kind_of : Bool → ℕ → ℕ → ℕ
kind_of flag_c rate i = cond (eqb rate 1) (cond (eqb (i % 8) 0) 8 0) (cond (flag_c && (leb 2 rate && leb rate 5)) (rate + code_words) rate)

unfoldable pub kinds : Bool → List ℕ → List ℕ
kinds flag_c rates = table 800 (λ i. kind_of flag_c (get_or rates (band_of i) 0) i)
