-- What the laws of the contest count in raised scores: heights with room for nine steps, steps granted below a score, and what they cost.
-- Assumes nothing.
use mathlib.Core.Bool.{cond}
use mathlib.Core.List.{List, [], ◌∷◌}
use Prim.Native.Nat.{ℕ, zero, suc, ◌+◌, ◌-◌, ◌*◌, ◌<◌, ◌≤◌}
use lib.Dec.{ltb}
use lib.IntN.{ℤ}
use Rattle.ground.specs.Differences.{Is}
use Rattle.contest.specs.RaisedContest.{Band}

-- each height is its score plus 368, and leaves room for nine steps
pub record Heights (score : ℕ → ℤ) (height : ℕ → ℕ) : Type 0 where
  pub raised : (p : ℕ) → p < 44 → Is (score p) (height p) 368
  pub room : (p : ℕ) → p < 44 → 288 ≤ height p

unfoldable pub sum_of : (Band → ℕ) → List Band → ℕ
sum_of f [] = 0
sum_of f (b ∷ bs) = f b + sum_of f bs

-- of the first n steps from a score, how many were granted below s
unfoldable pub count_below : ℕ → ℕ → ℕ → ℕ
count_below s score zero = 0
count_below s score (suc t) = count_below s score t + cond (ltb (score - 32 * t) s) 1 0

-- what a band's steps below s cost: it started 32 higher for each of them
unfoldable pub spent : ℕ → Band → ℕ
spent s b = b.size * count_below s (b.score + 32 * b.rate) b.rate
