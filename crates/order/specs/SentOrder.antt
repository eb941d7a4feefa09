-- The order in which a frame sends its norms: band order, or in transient frames 01's order (our reading of 7.4 with Tables 11–14).
-- Assumes nothing.
use Rattle.std.specs.Prelude.{Bool, true, false, List, [], ◌∷◌, ℕ, get_or}
use Rattle.ground.specs.ListsByRule.{table}

-- the bands as a transient frame sends them
unfoldable pub order : List ℕ
order =
    0 ∷ 1 ∷ 8 ∷ 9 ∷ 16 ∷ 20 ∷ 24 ∷ 28 ∷ 32 ∷ 36 ∷ 40
    ∷ 41 ∷ 37 ∷ 33 ∷ 29 ∷ 25 ∷ 21 ∷ 17 ∷ 11 ∷ 10 ∷ 3 ∷ 2
    ∷ 4 ∷ 5 ∷ 12 ∷ 13 ∷ 18 ∷ 22 ∷ 26 ∷ 30 ∷ 34 ∷ 38 ∷ 42
    ∷ 43 ∷ 39 ∷ 35 ∷ 31 ∷ 27 ∷ 23 ∷ 19 ∷ 15 ∷ 14 ∷ 7 ∷ 6 ∷ []

-- the place of each band in it
unfoldable pub places : List ℕ
places =
    0 ∷ 1 ∷ 21 ∷ 20 ∷ 22 ∷ 23 ∷ 43 ∷ 42 ∷ 2 ∷ 3 ∷ 19
    ∷ 18 ∷ 24 ∷ 25 ∷ 41 ∷ 40 ∷ 4 ∷ 17 ∷ 26 ∷ 39 ∷ 5 ∷ 16
    ∷ 27 ∷ 38 ∷ 6 ∷ 15 ∷ 28 ∷ 37 ∷ 7 ∷ 14 ∷ 29 ∷ 36 ∷ 8
    ∷ 13 ∷ 30 ∷ 35 ∷ 9 ∷ 12 ∷ 31 ∷ 34 ∷ 10 ∷ 11 ∷ 32 ∷ 33 ∷ []

-- the numbers that stand at the places ks
abbrev pub pick : List ℕ → List ℕ → ℕ → ℕ
pick ks xs i = get_or xs (get_or ks i 0) 0

-- from band order to sent order, and back
unfoldable pub sent : Bool → List ℕ → List ℕ
sent false norms = norms
sent true norms = table 44 (pick order norms)

unfoldable pub banded : Bool → List ℕ → List ℕ
banded false ss = ss
banded true ss = table 44 (pick places ss)
