-- "At each rate from 2 to 9 the lattice indices and the points they name match one to one, and any other point is refused": said of the two calls.
-- Assumes nothing.
use Rattle.std.specs.Prelude.{◌≡◌, List, ℕ, ◌^◌, ◌<◌, ◌≤◌, length, get_or, ℤ}
use Rattle.ground.specs.Replies.{done}
use Rattle.lattice.specs.Lattice.{point, IsIndex}
use Rattle.points.specs.Answers.{point_of, index_of, no_point, no_index}

-- k is an index of this rate, and v is the point that it names
pub record Names (rate : ℕ) (k : List ℕ) (v : List ℤ) : Type 0 where
  pub index : IsIndex (2 ^ rate) k
  pub its_point : point (2 ^ rate) k ≡ v

-- at this rate the indices and the points that they name match one to one, and any other point is refused
pub record OneToOne (rate : ℕ) : Type 0 where
  -- no two indices name one point
  pub apart : (k l : List ℕ) (v : List ℤ) → Names rate k v → Names rate l v → k ≡ l
  -- each index is answered by its point, and that point by the index
  pub there : (k : List ℕ) (v : List ℤ) → Names rate k v → point_of rate k ≡ record { reply = done; at = v }
  pub again : (k : List ℕ) (v : List ℤ) → Names rate k v → index_of rate v ≡ record { reply = done; at = k }
  -- a point is accepted only if the index answered names it; every other point is refused
  pub accepted : (v : List ℤ) → length v ≡ 8 → (index_of rate v).reply ≡ done → Names rate (index_of rate v).at v
  pub refused : (v : List ℤ) → length v ≡ 8 → ((k : List ℕ) → Names rate k v → ⊥) → index_of rate v ≡ no_index
  -- a number of 2 ^ rate or more is in no index, and is refused
  pub too_large : (k : List ℕ) (i : ℕ) → i < 8 → 2 ^ rate ≤ get_or k i 0 → point_of rate k ≡ no_point
