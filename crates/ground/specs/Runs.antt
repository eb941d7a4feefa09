-- Lists made of runs, f 0 ++ f 1 ++ … ++ f (n − 1), and a part of a list.
-- Assumes nothing.
use Rattle.std.specs.Prelude.{List, [], ◌++◌, ℕ, zero, suc, ◌*◌, drop, take}

module _ {A : Type 0} where
  unfoldable pub runs : ℕ → (ℕ → List A) → List A
  runs zero f = []
  runs (suc n) f = runs n f ++ f n

  -- ---- a lent list taken part by part, each of k: the parts below c are done, the rest is as before
  abbrev pub part : ℕ → List A → ℕ → List A
  part k l c = take k (drop (c * k) l)
