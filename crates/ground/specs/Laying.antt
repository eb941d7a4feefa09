-- A text laid over bytes from a place on: what lies before and after it stays.
-- Assumes nothing.
use Rattle.std.specs.Prelude.{◌≡◌, List, ℕ, ◌+◌, length}
use Rattle.std.proofs.lemmas.List.Edits.{sets}

-- what would lie past the end is dropped
unfoldable pub laid_text : List ℕ → ℕ → List ℕ → List ℕ
laid_text s at t = sets s at t

-- ---- what putting a text does: the bytes at exit and the place after the text

pub record TextLaid (s : List ℕ) (at : ℕ) (t s' : List ℕ) (next : ℕ) : Type 0 where
  pub after : next ≡ at + length t
  pub bytes : s' ≡ laid_text s at t
