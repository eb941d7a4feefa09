-- Whether every number has a word of its kind.
-- Assumes nothing.
use Rattle.std.specs.Prelude.{Bool, true, false, ◌&&◌, List, [], ◌∷◌, ℕ}
use Rattle.bits.specs.Codings.{Coding, fit}

-- every number has a word of its coding
unfoldable pub fits : List Coding → List ℕ → Bool
fits [] [] = true
fits [] (v ∷ vs) = false
fits (c ∷ cs) [] = false
fits (c ∷ cs) (v ∷ vs) = fit c v && fits cs vs
