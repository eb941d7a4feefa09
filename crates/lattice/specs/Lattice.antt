-- Lattice codes, rates 2 to 9 (001, 7.6.2; 01, "Coefficient codes"): the point that an index names, and the way back.
-- r is 2 to the rate. An index k and a point v are lists of eight; the paper's first place is place 0 here.
-- Assumes nothing.
use Rattle.std.specs.Prelude.{◌≡◌, Bool, cond, ◌&&◌, List, ℕ, zero, suc, ◌+◌, ◌*◌, ◌/◌, ◌%◌, ◌<◌, ltb, eqb, length, get_or, ℤ, pos, nat_abs, ◌+ℤ◌, ◌-ℤ◌, ◌*ℤ◌}
use Rattle.std.proofs.Math.IntN.{suc_ℤ, pred_ℤ}
use Rattle.std.specs.Int.Signed.{shr_z, lt_z}
use Rattle.ground.specs.ListsByRule.{table}
use Rattle.ground.specs.Differences.{mod_z}
use Rattle.ground.specs.Sums.{sum_to}

-- f 0 + … + f (n − 1), of whole numbers
abbrev pub sum_z : (ℕ → ℤ) → ℕ → ℤ
sum_z f zero = pos 0
sum_z f (suc n) = sum_z f n +ℤ f n

-- the first place of the largest of f 0 … f (n − 1)
unfoldable pub largest : (ℕ → ℕ) → ℕ → ℕ
largest f zero = 0
largest f (suc n) = cond (ltb (f (largest f n)) (f n)) n (largest f n)

-- ---- the point

-- "Index k gives x: first 2k1 + k2 + … + k8, the others k2 … k8."
unfoldable pub x : List ℕ → ℕ → ℕ
x k zero = 2 * get_or k 0 0 + sum_to (λ (i : ℕ). get_or k (suc i) 0) 7
x k (suc i) = get_or k (suc i) 0

-- "Round each x/r to the nearest whole number, half downwards": up where more than half of r is left over
unfoldable pub rounded : ℕ → ℕ → ℕ
rounded r x = cond (ltb r (2 * (x % r))) (suc (x / r)) (x / r)

-- "error e = x − r × rounded"
unfoldable pub error : ℕ → ℕ → ℤ
error r x = pos x -ℤ pos r *ℤ pos (rounded r x)

unfoldable pub rounded_sum : ℕ → List ℕ → ℕ
rounded_sum r k = sum_to (λ (i : ℕ). rounded r (x k i)) 8

-- "the first place of largest |e|"
unfoldable pub worst : ℕ → List ℕ → ℕ
worst r k = largest (λ (i : ℕ). nat_abs (error r (x k i))) 8

-- "If the rounded sum is odd, change the first place of largest |e|": whether place i is changed
unfoldable pub changed : ℕ → List ℕ → ℕ → Bool
changed r k i = eqb (rounded_sum r k % 2) 1 && eqb i (worst r k)

-- "up by 1 if e > 0, else down by 1"
unfoldable pub step : ℕ → ℕ → ℤ
step r x = cond (lt_z (pos 0) (error r x)) (suc_ℤ (pos (rounded r x))) (pred_ℤ (pos (rounded r x)))

-- the rounded number at place i after the change
unfoldable pub final : ℕ → List ℕ → ℕ → ℤ
final r k i = cond (changed r k i) (step r (x k i)) (pos (rounded r (x k i)))

-- "Point = x − r × rounded."
unfoldable pub coordinate : ℕ → List ℕ → ℕ → ℤ
coordinate r k i = pos (x k i) -ℤ pos r *ℤ final r k i

unfoldable pub point : ℕ → List ℕ → List ℤ
point r k = table 8 (coordinate r k)

-- ---- the way back

-- "(v1 − v2 − … − v8)/2, v2 … v8, each modulo r"; an odd difference is halved downwards, and no index leads to such a point
unfoldable pub back_at : ℕ → List ℤ → ℕ → ℕ
back_at r v zero = mod_z (shr_z (get_or v 0 (pos 0) -ℤ sum_z (λ (i : ℕ). get_or v (suc i) (pos 0)) 7) 2) r
back_at r v (suc i) = mod_z (get_or v (suc i) (pos 0)) r

unfoldable pub back : ℕ → List ℤ → List ℕ
back r v = table 8 (back_at r v)

-- eight numbers below r: an index
pub record IsIndex (r : ℕ) (k : List ℕ) : Type 0 where
  pub long : length k ≡ 8
  pub small : (i : ℕ) → i < 8 → get_or k i 0 < r
