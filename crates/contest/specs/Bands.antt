-- The 44 bands of the allotment (01, Allotment).
use Rattle.std.specs.Prelude.{Bool, cond, ◌||◌, ℕ, ltb}

-- lengths by band: 0–15: 8; 16–23: 16; 24–35: 24; 36–43: 32
unfoldable pub length_of : ℕ → ℕ
length_of p = cond (ltb p 16) 8 (cond (ltb p 24) 16 (cond (ltb p 36) 24 32))

-- all 44 compete, or only bands 0–35
unfoldable pub competing : Bool → ℕ → Bool
competing wide p = wide || ltb p 36
