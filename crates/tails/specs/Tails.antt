-- The tail: the bits that are left behind the codes and the noise, as up to 320 bytes, the last filled up with 0.
-- Assumes nothing.
use Rattle.std.specs.Prelude.{Bool, false, true, not, ◌&&◌, List, ◌∷◌, ◌++◌, [], ℕ, ◌+◌, ◌-◌, ◌*◌, length, replicate}
use Rattle.ground.specs.ListsByRule.{table}
use Rattle.bits.specs.Bits.{view, val, bytes_of}

-- the tail's bits from the top, the rest 0
unfoldable pub tail_bytes : List Bool → List ℕ
tail_bytes b = bytes_of 320 (b ++ replicate (2560 - length b) false)

-- 320 bytes from a bit place on
unfoldable pub tail_from : List ℕ → ℕ → List ℕ
tail_from s at = table 320 (λ i. val (view s (at + i * 8) 8))

-- every bit is 0
unfoldable pub clear : List Bool → Bool
clear [] = true
clear (b ∷ bs) = not b && clear bs
