-- At rate 1 the 256 indices and the rows that they name match one to one, and any other point is refused: said of the two calls.
-- Assumes nothing.
use Rattle.std.specs.Prelude.{◌≡◌, List, ℕ, ◌<◌, ◌≤◌, length, ℤ}
use Rattle.ground.specs.Replies.{done}
use Rattle.points.specs.Answers.{no_point}
use Rattle.codebook.specs.Codebook.{row, row_point, row_index, no_row}

-- n is an index of rate 1, and v is the row that it names
pub record Names (n : ℕ) (v : List ℤ) : Type 0 where
  pub small : n < 256
  pub its_row : row n ≡ v

-- ---- the theorem

-- at rate 1 the indices and the points that they name match one to one, and any other point is refused
pub record OneToOne : Type 0 where
  -- no two indices name one point
  pub unlike : (m n : ℕ) (v : List ℤ) → Names m v → Names n v → m ≡ n
  -- each index is answered by its row, and that row by the index
  pub there : (n : ℕ) (v : List ℤ) → Names n v → row_point 1 n ≡ record { reply = done; at = v }
  pub again : (n : ℕ) (v : List ℤ) → Names n v → row_index 1 v ≡ record { reply = done; index = n }
  -- a point is accepted only if the index answered names it; every other point is refused
  pub accepted : (v : List ℤ) → length v ≡ 8 → (row_index 1 v).reply ≡ done → Names (row_index 1 v).index v
  pub refused : (v : List ℤ) → length v ≡ 8 → ((n : ℕ) → Names n v → ⊥) → row_index 1 v ≡ no_row
  -- an index over 255 is refused
  pub too_large : (n : ℕ) → 256 ≤ n → row_point 1 n ≡ no_point
