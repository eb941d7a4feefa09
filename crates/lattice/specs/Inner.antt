-- What the inner functions of the code promise each other: the errors raised by 32768.
-- Assumes nothing.
use Rattle.std.specs.Prelude.{◌≡◌, List, ℕ, ◌+◌, ◌-◌, ◌≤◌, ◌<◌, length, get_or}
use Rattle.ground.specs.Differences.{Is}
use Rattle.lattice.specs.Lattice.{x, error}

-- u is the error of y, raised; no error is further from 0 than half of the largest r
pub record Error (r y u : ℕ) : Type 0 where
  pub is : Is (error r y) u 32768
  pub high : u ≤ 33024
  pub low : 32512 ≤ u

-- the first n of eight errors stand in place, raised
pub record Errors (r : ℕ) (k : List ℕ) (errors : List ℕ) (n : ℕ) : Type 0 where
  pub long : length errors ≡ 8
  pub each : (i : ℕ) → i < n → Error r (x k i) (get_or errors i 0)

-- how far a raised number is from 0
abbrev pub away : ℕ → ℕ
away u = (u - 32768) + (32768 - u)
