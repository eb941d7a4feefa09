-- The three loud peaks: what legalising answers is computed from the definitions, and that it must be so follows from what legal indices allow each other.
-- Assumes nothing.
use mathlib.Core.Path.{◌≡◌, refl}
use mathlib.Core.Bool.{true, false}
use mathlib.Core.List.{List, ◌∷◌, ◌++◌}
use Prim.Native.Nat.{ℕ, ◌≤◌, ◌<◌}
use native.Mathlib.Omega.{arith}
use lib.ListN.{replicate}
use Rattle.ground.specs.Indices.{in_range}
use Rattle.ground.specs.ListsByRule.{from}
use Rattle.ground.specs.Sums.{nth}
use Rattle.ground.proofs.Laws.ListsByRule.{get_d_table}
use Rattle.order.specs.SentOrder.{order, places, pick, sent, banded}
use Rattle.norms.specs.Legal.{LegalNorms}
use Rattle.legal.specs.Legal.{capped, fallen, risen, legal_sent, legal_of, allowed}
use Rattle.legal.specs.Answers.{legalised}
use Rattle.legal.proofs.Laws.Reasons.{legal_allowed}
use Rattle.promises.specs.LoudPeaks.{LoudPeaks, Becomes}

-- ---- the answers

one_peak : Becomes false (31 ∷ replicate 19 36 ++ 0 ∷ replicate 23 36) (31 ∷ replicate 17 36 ++ 30 ∷ 15 ∷ 0 ∷ 16 ∷ 32 ∷ replicate 21 36)
unfolding legalised legal_of legal_sent risen fallen capped sent banded in_range from
one_peak = refl

transient_peak : Becomes true (31 ∷ replicate 19 36 ++ 0 ∷ replicate 23 36)
    (31 ∷ replicate 8 36 ++ 30 ∷ replicate 6 36 ++ 15 ∷ replicate 3 36 ++ 0 ∷ replicate 3 36 ++ 16 ∷ replicate 3 36 ++ 32 ∷ replicate 15 36)
unfolding legalised legal_of legal_sent risen fallen capped sent banded order places in_range from
transient_peak = refl

two_peaks : Becomes false (replicate 10 39 ++ 5 ∷ 39 ∷ 39 ∷ 0 ∷ replicate 30 39)
    (31 ∷ replicate 7 39 ++ 35 ∷ 20 ∷ 5 ∷ 21 ∷ 15 ∷ 0 ∷ 16 ∷ 32 ∷ replicate 28 39)
unfolding legalised legal_of legal_sent risen fallen capped sent banded in_range from
two_peaks = refl

-- ---- why

-- in a stationary frame
stationary : (others : List ℕ) → LegalNorms false others → (i p : ℕ) → i < 44 → p < 44 → nth others i ≤ allowed others p i
unfolding sent
stationary others w i p hi hp = legal_allowed others w.as_sent i p hi hp

-- in a transient frame, by places in sent order
transient : (others : List ℕ) → LegalNorms true others → (i p : ℕ) → i < 44 → p < 44 → nth (sent true others) i ≤ allowed (sent true others) p i
transient others w i p hi hp = legal_allowed (sent true others) w.as_sent i p hi hp

sent_at : (others : List ℕ) (i : ℕ) → i < 44 → nth (sent true others) i ≡ nth others (nth order i)
unfolding sent
sent_at others i h = get_d_table (pick order others) 44 0 i h

one_must : (others : List ℕ) → LegalNorms false others → nth others 20 ≤ 0
    → (nth others 18 ≤ 30) × (nth others 19 ≤ 15) × (nth others 21 ≤ 16) × (nth others 22 ≤ 32)
one_must others w peak =
    let by = stationary others w in (
      omega (arith, by 18 20 (omega arith) (omega arith)),
      omega (arith, by 19 20 (omega arith) (omega arith)),
      omega (arith, by 21 20 (omega arith) (omega arith)),
      omega (arith, by 22 20 (omega arith) (omega arith)),
    )

transient_must : (others : List ℕ) → LegalNorms true others → nth others 20 ≤ 0
    → (nth others 9 ≤ 30) × (nth others 16 ≤ 15) × (nth others 24 ≤ 16) × (nth others 28 ≤ 32)
unfolding order
transient_must others w peak =
    let by = transient others w in
    let at9 : nth (sent true others) 3 ≡ nth others 9 = sent_at others 3 (omega arith) in
    let at16 : nth (sent true others) 4 ≡ nth others 16 = sent_at others 4 (omega arith) in
    let at20 : nth (sent true others) 5 ≡ nth others 20 = sent_at others 5 (omega arith) in
    let at24 : nth (sent true others) 6 ≡ nth others 24 = sent_at others 6 (omega arith) in
    let at28 : nth (sent true others) 7 ≡ nth others 28 = sent_at others 7 (omega arith) in (
      omega (arith, by 3 5 (omega arith) (omega arith)),
      omega (arith, by 4 5 (omega arith) (omega arith)),
      omega (arith, by 6 5 (omega arith) (omega arith)),
      omega (arith, by 7 5 (omega arith) (omega arith)),
    )

two_must : (others : List ℕ) → LegalNorms false others → nth others 10 ≤ 5 → nth others 13 ≤ 0
    → (nth others 8 ≤ 35) × (nth others 9 ≤ 20) × (nth others 11 ≤ 21) × (nth others 12 ≤ 15) × (nth others 14 ≤ 16) × (nth others 15 ≤ 32) × (nth others 0 ≤ 31)
unfolding sent
two_must others w lower higher =
    let by = stationary others w in (
      omega (arith, by 8 10 (omega arith) (omega arith)),
      omega (arith, by 9 10 (omega arith) (omega arith)),
      omega (arith, by 11 10 (omega arith) (omega arith)),
      omega (arith, by 12 13 (omega arith) (omega arith)),
      omega (arith, by 14 13 (omega arith) (omega arith)),
      omega (arith, by 15 13 (omega arith) (omega arith)),
      w.as_sent.first,
    )

pub loud_peaks : LoudPeaks
loud_peaks =
    record {
      one_peak = one_peak;
      one_peak_must = one_must;
      transient_peak = transient_peak;
      transient_peak_must = transient_must;
      two_peaks = two_peaks;
      two_peaks_must = two_must;
    }
