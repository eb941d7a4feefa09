-- How the code keeps a row: a binary digit for each place, in the high byte a one for a number above 0, in the low byte a one for a number below 0.
-- For a row of ±1 the low byte is the byte of signs.
-- Assumes nothing.
use Rattle.std.specs.Prelude.{◌≡◌, Bool, cond, List, ℕ, zero, suc, ◌*◌, ◌^◌, ◌<◌, ◌≤◌, eqb, get_or, ℤ, pos, negsuc}
use Rattle.std.specs.declared.option.Option.{Option}
use Rattle.std.specs.declared.option.Option.TheVariants.{Some, None}
use Rattle.ground.specs.Sums.{sum_to}
use Rattle.codebook.specs.Table18.{+0, +1, +2, -1, -2}
use Rattle.codebook.specs.Codebook.{row}

-- what a number adds to the code, times 2 ^ its place
abbrev pub weight : ℤ → ℕ
weight (pos zero) = 0
weight (pos (suc n)) = 256
weight (negsuc n) = 1

unfoldable pub code : List ℤ → ℕ
code v = sum_to (λ (i : ℕ). weight (get_or v i (pos 0)) * 2 ^ i) 8

-- the number that a place of a row has, from its two digits: of ±2 in the first half of the book, of ±1 in the second
abbrev pub entry : Bool → Bool → Bool → ℤ
entry twos plus minus = cond plus (cond twos +2 +1) (cond minus (cond twos -2 -1) +0)

-- the rows from `from` on and below `to`
pub record Span : Type 0 where
  pub from : ℕ
  pub to : ℕ

abbrev pub span : ℕ → ℕ → Span
span f t = record { from = f; to = t }

-- "its class is told by how many ones that byte has": the rows of ±1 with n −1
unfoldable pub sign_class : ℕ → Span
sign_class n =
    cond (eqb n 2) (span 128 156) (cond (eqb n 4) (span 156 226) (cond (eqb n 6) (span 226 254) (cond (eqb n 8) (span 254 255) (span 255 256))))

-- no row from `from` on and below `to` has the code x
pub record Passed (x from to : ℕ) : Type 0 where
  pub each : (j : ℕ) → from ≤ j → j < to → code (row j) ≡ x → ⊥

-- from `from` up n is the first row, below `to`, that has the code x
pub record First (x from to n : ℕ) : Type 0 where
  pub low : from ≤ n
  pub high : n < to
  pub hit : code (row n) ≡ x
  pub passed : Passed x from n

-- the first row that has the code x, if one has
abbrev pub Found : ℕ → ℕ → ℕ → Option ℕ → Type 0
Found x from to (Some n) = First x from to n
Found x from to None = Passed x from to
