-- Sound units, one after the other, of any kind.
-- Assumes nothing.
use Rattle.std.specs.Prelude.{List, [], ◌++◌, ℕ, ◌+◌}

-- so many of them, one after the other; Whole says of bytes that they are exactly one sound unit
pub data Units (Whole : List ℕ → Type 0) : ℕ → List ℕ → Type 0 where
  none : Units Whole 0 []
  more : {k : ℕ} {f s : List ℕ} → Whole f → Units Whole k s → Units Whole (1 + k) (f ++ s)
