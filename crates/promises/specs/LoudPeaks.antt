-- Change No. 14 (02) by three cases: loud peaks in a quiet neighbourhood. Each says which indices fall, and why they must: whatever is legal and not above the
-- peak in the peak's own band is not above those numbers there. The peak itself is never raised. Sent order decides which bands are neighbours.
-- Assumes nothing.
use Rattle.std.specs.Prelude.{◌≡◌, Bool, true, false, List, ◌∷◌, ◌++◌, ℕ, ◌≤◌, replicate}
use Rattle.ground.specs.Replies.{done}
use Rattle.ground.specs.Sums.{nth}
use Rattle.norms.specs.Legal.{LegalNorms}
use Rattle.promises.specs.Calls as call

-- what legalising answers
abbrev pub Becomes : Bool → List ℕ → List ℕ → Type 0
Becomes transient norms legal = call.legalise transient norms ≡ record { reply = done; norms = legal }

pub record LoudPeaks : Type 0 where
  -- One peak, stationary: index 0 in band 20, 36 elsewhere, 31 in band 0. Bands 18 and 19 fall to 30 and 15, since a difference of −15 is the lowest; bands 21 and 22 to 16
  -- and 32, since 16 is the highest
  pub one_peak : Becomes false (31 ∷ replicate 19 36 ++ 0 ∷ replicate 23 36) (31 ∷ replicate 17 36 ++ 30 ∷ 15 ∷ 0 ∷ 16 ∷ 32 ∷ replicate 21 36)
  pub one_peak_must : (others : List ℕ) → LegalNorms false others → nth others 20 ≤ 0
      → (nth others 18 ≤ 30) × (nth others 19 ≤ 15) × (nth others 21 ≤ 16) × (nth others 22 ≤ 32)
  -- The same norms, transient: band 20 is sent behind 9 and 16 and before 24 and 28, so it is these that fall, to 30, 15, 16 and 32; bands 19 and 21 stay
  pub transient_peak : Becomes true (31 ∷ replicate 19 36 ++ 0 ∷ replicate 23 36)
      (31 ∷ replicate 8 36 ++ 30 ∷ replicate 6 36 ++ 15 ∷ replicate 3 36 ++ 0 ∷ replicate 3 36 ++ 16 ∷ replicate 3 36 ++ 32 ∷ replicate 15 36)
  pub transient_peak_must : (others : List ℕ) → LegalNorms true others → nth others 20 ≤ 0
      → (nth others 9 ≤ 30) × (nth others 16 ≤ 15) × (nth others 24 ≤ 16) × (nth others 28 ≤ 32)
  -- Two peaks, stationary: 5 in band 10 and 0 in band 13, 39 elsewhere. Between them each band takes what the stricter peak allows: band 11 has 21, not 30, band 12 has
  -- 15, not 37. Outside, bands 8 and 9 fall to 35 and 20, bands 14 and 15 to 16 and 32; and band 0 to 31, since the first index has 5 bits
  pub two_peaks : Becomes false (replicate 10 39 ++ 5 ∷ 39 ∷ 39 ∷ 0 ∷ replicate 30 39)
      (31 ∷ replicate 7 39 ++ 35 ∷ 20 ∷ 5 ∷ 21 ∷ 15 ∷ 0 ∷ 16 ∷ 32 ∷ replicate 28 39)
  pub two_peaks_must : (others : List ℕ) → LegalNorms false others → nth others 10 ≤ 5 → nth others 13 ≤ 0
      → (nth others 8 ≤ 35) × (nth others 9 ≤ 20) × (nth others 11 ≤ 21) × (nth others 12 ≤ 15) × (nth others 14 ≤ 16) × (nth others 15 ≤ 32) × (nth others 0 ≤ 31)
