-- What the functions of this crate promise each other.
-- Assumes nothing.
use Rattle.std.specs.Prelude.{◌≡◌, Bool, cond, List, ℕ, zero, suc, ◌+◌, ◌-◌, ◌*◌, ◌/◌, max, min, ltb}
use Rattle.ground.specs.ListsByRule.{table}
use Rattle.ground.specs.Sums.{nth, sum_to}
use Rattle.weights.specs.Table17.{bands_of, height_of, lift_of, floor_of}
use Rattle.weights.specs.declared.table17.Row.{Row}

-- row b of Table 17 as the code counts
pub record Counted (b : ℕ) (r : Row) : Type 0 where
  pub first : r.first ≡ nth (bands_of b) 0
  pub height : r.height ≡ height_of b
  pub part : r.part ≡ 180 / height_of b
  pub lift : r.lift ≡ 720 * lift_of b
  pub floor : r.floor ≡ 720 * (floor_of b + 5)

-- the raised loudness of band p
unfoldable pub loud : List ℕ → ℕ → ℕ
loud norms p = 39 - nth norms p

-- (23) in quarters
unfoldable pub quarter : Bool → List ℕ → ℕ → ℕ
quarter transient norms p =
    let q = 4 * (p / 4) in
    cond transient (loud norms q + loud norms (q + 1) + loud norms (q + 2) + loud norms (q + 3)) (4 * loud norms p)

unfoldable pub quarters : Bool → List ℕ → List ℕ
quarters transient norms = table 44 (quarter transient norms)

-- (24)
unfoldable pub row : List ℕ → ℕ → ℕ
row qs b = 180 / height_of b * sum_to (λ i. nth qs (nth (bands_of b) 0 + i)) (height_of b) + 720 * lift_of b

-- (25), and (26) on the rows turned round: each row, or the row before it, already smoothed, less `by`
unfoldable pub smooth : ℕ → List ℕ → ℕ → ℕ
smooth by bs zero = nth bs 0
smooth by bs (suc b) = max (nth bs (suc b)) (smooth by bs b - by)

-- from the last row to the first
unfoldable pub turned : List ℕ → List ℕ
turned bs = table 20 (λ b. nth bs (19 - b))

-- (27) with the sign changed
unfoldable pub excess : List ℕ → ℕ → ℕ
excess bs b = max (nth bs b) (720 * (floor_of b + 5)) - 720 * lift_of b

unfoldable pub most : List ℕ → ℕ → ℕ
most ds zero = nth ds 0
most ds (suc n) = max (most ds n) (nth ds (suc n))

unfoldable pub least : List ℕ → ℕ → ℕ
least ds zero = nth ds 0
least ds (suc n) = min (least ds n) (nth ds (suc n))

-- (28)
unfoldable pub scaled : ℕ → ℕ → ℕ → ℕ
scaled hi lo d = cond (ltb lo hi) (64 * (hi - d) / (hi - lo)) 0

unfoldable pub raised_rows : Bool → List ℕ → List ℕ
raised_rows transient norms =
    let b24 = table 20 (row (quarters transient norms)) in
    let b25 = table 20 (smooth 2880 b24) in
    let b26 = turned (table 20 (smooth 5760 (turned b25))) in
    let ds = table 20 (excess b26) in
    table 20 (λ b. scaled (most ds 19) (least ds 19) (nth ds b))
