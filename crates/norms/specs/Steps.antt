-- Norm indices in sent order as the numbers that are sent, and back (7.4, 8.2): the first index, then each difference plus 15.
-- The first counts as a step from 15, so it is its own number.
-- Assumes nothing.
use Rattle.std.specs.Prelude.{Bool, true, false, ◌&&◌, List, [], ◌∷◌, ℕ, ◌+◌, ◌-◌, leb, get_or, drop}
use Rattle.bits.specs.Codecs.{Verdict, fine, bad}
use Rattle.bits.specs.declared.Refusal.TheVariants.{Outside}

-- each index plus 15, less the one before it
unfoldable pub numbers : ℕ → List ℕ → List ℕ
numbers x [] = []
numbers x (y ∷ ys) = (y + 15 - x) ∷ numbers y ys

abbrev pub guarded : Bool → Bool → ℕ → Verdict (List ℕ) → Verdict (List ℕ)
guarded true true y (fine ys) = fine (y ∷ ys)
guarded true true y (bad k) = bad k
guarded true false y c = bad Outside
guarded false t y c = bad Outside

-- each index is the one before, plus the number, less 15; one outside 0 to 39 is refused
unfoldable pub indices : ℕ → List ℕ → Verdict (List ℕ)
indices x [] = fine []
indices x (w ∷ ws) = guarded (leb 15 (x + w)) (leb (x + w) 54) (x + w - 15) (indices (x + w - 15) ws)

-- the test of the steps alone
unfoldable pub close : ℕ → List ℕ → Bool
close x [] = true
close x (y ∷ ys) = (leb x (y + 15) && leb y (x + 16)) && close y ys

-- the differences within the list
unfoldable pub steps_close : List ℕ → Bool
steps_close ss = close (get_or ss 0 0) (drop 1 ss)
