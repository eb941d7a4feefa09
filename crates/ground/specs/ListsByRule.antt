-- Lists made by a rule from the place.
-- Assumes nothing.
use Rattle.std.specs.Prelude.{List, [], ◌∷◌, ℕ, zero, suc}

-- f i, f (i + 1), …: n of them
module _ {A : Type 0} where
  unfoldable pub from : (ℕ → A) → ℕ → ℕ → List A
  from f zero i = []
  from f (suc n) i = f i ∷ from f n (suc i)

  -- f 0, f 1, …, f (n − 1)
  abbrev pub table : ℕ → (ℕ → A) → List A
  table n f = from f n 0
