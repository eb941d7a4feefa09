-- Numbers as text: digits, and as many of them as a number has.
-- Assumes nothing.
use Rattle.std.specs.Prelude.{cond, List, [], ◌∷◌, ◌++◌, ℕ, zero, suc, ◌+◌, ◌/◌, ◌%◌, ltb}

-- a number below ten
abbrev pub digit : ℕ → ℕ
digit d = 48 + d

-- the last k digits of n, the first at the front
unfoldable pub digits : ℕ → ℕ → List ℕ
digits zero n = []
digits (suc k) n = digits k (n / 10) ++ (digit (n % 10) ∷ [])

-- as many digits as n has, at most k of them; 0 has one
unfoldable pub decimal_by : ℕ → ℕ → List ℕ
decimal_by zero n = []
decimal_by (suc k) n = cond (ltb n 10) (digit n ∷ []) (decimal_by k (n / 10) ++ (digit (n % 10) ∷ []))

-- all digits of n, without zeros in front: n has no more than n + 1
unfoldable pub decimal : ℕ → List ℕ
decimal n = decimal_by (suc n) n
