-- The way back from a point leads to its index, at any r above 0: the lattice's one fact, once over the rate.
-- The final rounded numbers have an even sum, so r times that sum, halved, is a multiple of r and falls away modulo r.
-- Assumes nothing.
use mathlib.Core.Path.{◌≡◌, refl, sym, ap, ◌∙◌}
use mathlib.Core.Bool.{Bool, true, false, cond, ◌&&◌}
use mathlib.Core.List.{List}
use Prim.Native.Nat.{ℕ, zero, suc, ◌+◌, ◌*◌, ◌/◌, ◌%◌, ◌<◌, ◌≤◌}
use native.Mathlib.Nat.{add-mul-mod_self_left, mod-eq_of_lt, mod-lt}
use native.Mathlib.Omega.{arith}
use borrow.Author.Tests.{eqb-true, eqb-false, ne_eqb}
use lib.Dec.{eqb, ltb}
use lib.ListN.{length, get_or}
use lib.IntN.{ℤ, pos, negsuc, suc_ℤ, pred_ℤ, ◌-ℤ◌}
use lib.Signed.{shr_z, lt_z}
use Rattle.ground.specs.ListsByRule.{from}
use Rattle.ground.proofs.Laws.ListsByRule.{filled, get_d_table, length_from}
use Rattle.ground.specs.Differences.{Is, mod_z}
use Rattle.ground.proofs.Laws.Differences.{is_pos, is_same, is_add, is_sub, is_half, is_mod}
use Rattle.ground.specs.Sums.{sum_to}
use Rattle.ground.proofs.Laws.Sums.{sum_both, sum_same}
use Rattle.lattice.specs.Lattice.{point, coordinate, final, step, changed, error, worst, rounded, rounded_sum, x, sum_z, back, back_at, IsIndex}
use Rattle.lattice.proofs.Laws.Lattice.{is_scale, is_cross, is_above, error_is, largest_lt}

one : Bool → ℕ
one t = cond t 1 0

-- the final rounded number is up − down
above : ℕ → List ℕ → ℕ → Bool
above r k i = lt_z (pos 0) (error r (x k i))

pub up : ℕ → List ℕ → ℕ → ℕ
up r k i = rounded r (x k i) + cond (changed r k i) (cond (above r k i) 1 0) 0

pub down : ℕ → List ℕ → ℕ → ℕ
down r k i = cond (changed r k i) (cond (above r k i) 0 1) 0

step_is : (q : ℕ) (c a : Bool) → Is (cond c (cond a (suc_ℤ (pos q)) (pred_ℤ (pos q))) (pos q)) (q + cond c (cond a 1 0) 0) (cond c (cond a 0 1) 0)
step_is q false a = omega arith
step_is q true true = omega arith
step_is zero true false = omega arith
step_is (suc q) true false = omega arith

pub coordinate_is : (r : ℕ) (k : List ℕ) (i : ℕ) → Is (coordinate r k i) (x k i + r * down r k i) (r * up r k i)
unfolding coordinate final step up down above
coordinate_is r k i =
    is_same _ _ (is_sub (is_pos (x k i)) (is_scale r (step_is (rounded r (x k i)) (changed r k i) (lt_z (pos 0) (error r (x k i)))))) (omega arith)

-- a coordinate from its error, raised by h: at the place that is changed, r less if e > 0, else r more
pub settled : (r : ℕ) (k : List ℕ) (i h e u : ℕ) (c a : Bool) → 0 < r → Is (error r (x k i)) e h → changed r k i ≡ c → ltb h e ≡ a
    → u + r * cond c (cond a 1 0) 0 ≡ e + r * cond c (cond a 0 1) 0 → Is (coordinate r k i) u h
unfolding up down above
settled r k i h e u c a l p ec ea q =
    let b : lt_z (pos 0) (error r (x k i)) ≡ a = is_above p ∙ ea in
    let g = is_cross p (error_is r (x k i) l) in
    is_same _ _ (rw (ec, b) at (coordinate_is r k i)) (omega arith)

-- ---- the sum of the final rounded numbers is even

none_there : (w n : ℕ) → n ≤ w → sum_to (λ (i : ℕ). one (eqb i w)) n ≡ 0
unfolding one sum_to
none_there w zero l = refl
none_there w (suc n) l = simp (ne_eqb n w (omega arith)) (omega (arith, none_there w n (omega arith)))

-- one place of n is w
one_there : (w n : ℕ) → w < n → sum_to (λ (i : ℕ). one (eqb i w)) n ≡ 1
unfolding one sum_to
one_there w zero l = absurd (omega arith)
one_there w (suc n) l = go (eqb n w) refl (one_there w n)
  where
    go : (t : Bool) → eqb n w ≡ t → (w < n → sum_to (λ (i : ℕ). one (eqb i w)) n ≡ 1) → sum_to (λ (i : ℕ). one (eqb i w)) n + cond t 1 0 ≡ 1
    go true e more = let h = eqb-true n w e in omega (arith, none_there w n (omega arith))
    go false e more = let h = eqb-false n w e in omega (arith, more (omega arith))

-- as many places are changed as make the sum even: one or none
flags : (o : Bool) (w : ℕ) → w < 8 → sum_to (λ (i : ℕ). one (o && eqb i w)) 8 ≡ one o
unfolding one sum_to
flags true w l = one_there w 8 l
flags false w l = refl

up_down : (q : ℕ) (c a : Bool) → (q + cond c (cond a 1 0) 0) + cond c (cond a 0 1) 0 ≡ q + one c
unfolding one
up_down q false a = omega arith
up_down q true true = omega arith
up_down q true false = omega arith

even_by : (s : ℕ) → (s + one (eqb (s % 2) 1)) % 2 ≡ 0
unfolding one
even_by s = go (eqb (s % 2) 1) refl
  where
    go : (t : Bool) → eqb (s % 2) 1 ≡ t → (s + one t) % 2 ≡ 0
    go true e = let h = eqb-true (s % 2) 1 e in omega arith
    go false e = let h = eqb-false (s % 2) 1 e in omega arith

-- up and down come to the rounded sum, and one more where that is odd
even : (r : ℕ) (k : List ℕ) → sum_to (λ (i : ℕ). up r k i + down r k i) 8 % 2 ≡ 0
unfolding up down worst changed rounded_sum
even r k =
    ap (λ (s : ℕ). s % 2)
    (sum_same (λ (i : ℕ). up r k i + down r k i) (λ (i : ℕ). rounded r (x k i) + one (changed r k i)) 8
    (λ i h. up_down (rounded r (x k i)) (changed r k i) (above r k i))
    ∙ sym (sum_both (λ (i : ℕ). rounded r (x k i)) (λ (i : ℕ). one (changed r k i)) 8)
    ∙ ap (λ (f : ℕ). sum_to (λ (i : ℕ). rounded r (x k i)) 8 + f) (flags (eqb (rounded_sum r k % 2) 1) (worst r k) (largest_lt _ 7)))
    ∙ even_by (sum_to (λ (i : ℕ). rounded r (x k i)) 8)

-- ---- back to each place

back_first : (r : ℕ) (k : List ℕ) → get_or k 0 0 < r → back_at r (point r k) 0 ≡ get_or k 0 0
unfolding back_at point from x sum_to
back_first r k l =
    let u = up r k in
    let d = down r k in
    let m = sum_to (λ (i : ℕ). up r k i + down r k i) 8 / 2 in
    let n = u 0 + d 1 + d 2 + d 3 + d 4 + d 5 + d 6 + d 7 in
    let rt : r * sum_to (λ (i : ℕ). up r k i + down r k i) 8 ≡ r * (2 * m) = ap (λ (s : ℕ). r * s) (omega (arith, even r k)) in
    let c = coordinate_is r k in
    let w = is_sub (c 0) (is_add (is_add (is_add (is_add (is_add (is_add (is_add (is_pos 0) (c 1)) (c 2)) (c 3)) (c 4)) (c 5)) (c 6)) (c 7)) in
    let half = is_half (2 * (get_or k 0 0 + r * m)) (r * n) (is_same _ _ w (omega arith)) in
    is_mod (get_or k 0 0 + r * m) r n (omega arith) (is_same _ _ half (omega arith)) ∙ add-mul-mod_self_left (get_or k 0 0) r m ∙ mod-eq_of_lt l

back_other : (r : ℕ) (k : List ℕ) (i : ℕ) → i < 7 → get_or k (suc i) 0 < r → back_at r (point r k) (suc i) ≡ get_or k (suc i) 0
unfolding back_at point x
back_other r k i j l =
    ap (λ (z : ℤ). mod_z z r) (get_d_table (coordinate r k) 8 (pos 0) (suc i) (omega arith))
    ∙ is_mod _ r (up r k (suc i)) (omega arith) (coordinate_is r k (suc i))
    ∙ add-mul-mod_self_left (get_or k (suc i) 0) r (down r k (suc i)) ∙ mod-eq_of_lt l

pub back_point : (r : ℕ) (k : List ℕ) → IsIndex r k → back r (point r k) ≡ k
unfolding back
back_point r k h = sym (filled (back_at r (point r k)) 8 0 k h.long each)
  where
    each : (i : ℕ) → i < 8 → get_or k i 0 ≡ back_at r (point r k) i
    each zero l = sym (back_first r k (h.small 0 l))
    each (suc i) l = sym (back_other r k i (omega arith) (h.small (suc i) l))

-- ---- the way back leads to an index from anywhere

mod_z_lt : (z : ℤ) (r : ℕ) → 0 < r → mod_z z r < r
mod_z_lt (pos n) r p = mod-lt n p
mod_z_lt (negsuc n) r p = omega (arith, mod-lt n p)

pub back_lt : (r : ℕ) (v : List ℤ) (i : ℕ) → 0 < r → back_at r v i < r
unfolding back_at
back_lt r v zero p = mod_z_lt (shr_z (get_or v 0 (pos 0) -ℤ sum_z (λ (i : ℕ). get_or v (suc i) (pos 0)) 7) 2) r p
back_lt r v (suc i) p = mod_z_lt (get_or v (suc i) (pos 0)) r p

pub back_index : (r : ℕ) (v : List ℤ) → 0 < r → IsIndex r (back r v)
unfolding back
back_index r v p = record { long = length_from (back_at r v) 8 0; small = λ i l. rw (get_d_table (back_at r v) 8 0 i l) (back_lt r v i p) }

pub point_long : (r : ℕ) (k : List ℕ) → length (point r k) ≡ 8
unfolding point
point_long r k = length_from (coordinate r k) 8 0
