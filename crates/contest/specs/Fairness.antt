-- Demand 3: what a fair sharing of a budget is, told on the answer alone.
use Rattle.std.specs.Prelude.{◌≡◌, Bool, true, false, cond, ℕ, zero, suc, ◌+◌, ◌*◌, ◌<◌, ◌≤◌, ℤ, pos, ◌-ℤ◌}
use Rattle.std.specs.Int.Signed.{lt_z}
use Rattle.ground.specs.Sums.{sum_to}

-- The steps of a band follow from its starting score and its rate: step t, from 0, was granted at score − 32 t (by the rounds: proofs/Laws/Grants, steps).
-- Of the first n steps, how many were granted at a score below s
unfoldable pub steps_below : ℤ → ℤ → ℕ → ℕ
steps_below s score zero = 0
steps_below s score (suc t) = steps_below s score t + cond (lt_z (score -ℤ pos (32 * t)) s) 1 0

-- 44 bands with these lengths and starting scores, of which some compete, share a budget: these rates, and so many bits left
pub record Fair (size : ℕ → ℕ) (score : ℕ → ℤ) (competes : ℕ → Bool) (budget : ℕ) (rate : ℕ → ℕ) (left : ℕ) : Type 0 where
  -- no rate is over nine
  pub nine : (p : ℕ) → p < 44 → rate p ≤ 9
  -- a band that does not compete gets nothing
  pub idle : (p : ℕ) → p < 44 → competes p ≡ false → rate p ≡ 0
  -- (33): the bits given and the bits left are the budget
  pub sum : sum_to (λ p. rate p * size p) 44 + left ≡ budget
  -- nothing servable is left: a competing band below nine has a length over the bits left
  pub short : (p : ℕ) → p < 44 → competes p ≡ true → rate p < 9 → left < size p
  -- for a competing band below nine, all steps granted at a score below its final one cost together less than its length
  pub late : (p : ℕ) → p < 44 → competes p ≡ true → rate p < 9
      → sum_to (λ j. size j * steps_below (score p -ℤ pos (32 * rate p)) (score j) (rate j)) 44 < size p
