-- What the functions of this crate promise each other.
-- Assumes nothing.
use Rattle.std.specs.Prelude.{Bool, ℕ, ◌/◌, ◌%◌, ◌^◌, eqb}

-- the digit of b that counts 2 ^ i
abbrev pub digit : ℕ → ℕ → Bool
digit b i = eqb (b / 2 ^ i % 2) 1
