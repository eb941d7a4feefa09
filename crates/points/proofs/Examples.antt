-- 01's starred lattice examples, through the answers of the calls: "Rate 2, k1 = 1, 2, 3, others 0: points first 2, 4, −2, others 0.
-- k2 = 3 alone: −1, −1, 0 …". And one point that is refused, since v1 − v2 − … is odd.
use mathlib.Core.Path.{◌≡◌, refl}
use mathlib.Core.List.{List, [], ◌∷◌}
use lib.IntN.{pos, negsuc}
use Rattle.ground.specs.ListsByRule.{from}
use Rattle.ground.specs.Replies.{done}
use Rattle.ground.specs.Sums.{sum_to}
use Rattle.lattice.specs.Lattice.{x, rounded, error, rounded_sum, worst, largest, changed, step, final, coordinate, point, back_at, back}
use Rattle.points.specs.Answers.{all_to, below, agree, point_of, index_of, no_index}

-- a and b in the first two places, z in the others
abbrev first : {A : Type 0} → A → A → A → List A
first a b z = a ∷ b ∷ z ∷ z ∷ z ∷ z ∷ z ∷ z ∷ []

pub stars :
    (point_of 2 (first 1 0 0) ≡ record { reply = done; at = first (pos 2) (pos 0) (pos 0) })
    × (point_of 2 (first 2 0 0) ≡ record { reply = done; at = first (pos 4) (pos 0) (pos 0) })
    × (point_of 2 (first 3 0 0) ≡ record { reply = done; at = first (negsuc 1) (pos 0) (pos 0) })
    × (point_of 2 (first 0 3 0) ≡ record { reply = done; at = first (negsuc 0) (negsuc 0) (pos 0) })
    × (index_of 2 (first (negsuc 0) (negsuc 0) (pos 0)) ≡ record { reply = done; at = first 0 3 0 })
    × (index_of 2 (first (pos 1) (pos 0) (pos 0)) ≡ no_index)
unfolding x rounded error rounded_sum worst largest changed step final coordinate point back_at back all_to below agree point_of index_of from sum_to
stars = (refl, refl, refl, refl, refl, refl)
