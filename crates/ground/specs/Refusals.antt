-- Refusals in order (01, Numbered replies): a list of causes, each a test with the number that is answered where it holds. The first that holds decides.
-- Assumes nothing.
use Rattle.std.specs.Prelude.{Bool, false, cond, not, ◌||◌, List, [], ◌∷◌, ℕ, T, eqb}
use Rattle.ground.specs.Replies.{done}

infix 70 ◌gives◌
pub data Cause : Type 0 where
  ◌gives◌ : Bool → ℕ → Cause

abbrev pub not_done : ℕ → Bool
not_done n = not (eqb n done)

-- what another call has answered is the reply, unless it is 0
abbrev pub said : ℕ → Cause
said x = not_done x gives x

-- the number of the first cause that holds; 0 where none does
unfoldable pub first : List Cause → ℕ
first [] = done
first (t gives n ∷ cs) = cond t n (first cs)

-- one of some numbers
unfoldable pub among : List ℕ → ℕ → Bool
among [] n = false
among (x ∷ xs) n = eqb n x || among xs n

abbrev pub OneOf : List ℕ → ℕ → Type 0
OneOf xs n = T (among xs n)
