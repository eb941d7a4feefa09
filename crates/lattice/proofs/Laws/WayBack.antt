-- The way back from raised numbers: 32768 is a multiple of r.
-- Assumes nothing.
use mathlib.Core.Path.{◌≡◌, sym}
use mathlib.Core.List.{List}
use Prim.Native.Nat.{ℕ, zero, suc, ◌*◌, ◌/◌, ◌%◌, ◌<◌, ◌≤◌}
use native.Mathlib.Nat.{div-add-mod}
use native.Mathlib.Omega.{arith}
use lib.ListN.{get_or}
use lib.IntN.{ℤ, pos, ◌-ℤ◌}
use Rattle.ground.specs.Differences.{Is}
use Rattle.ground.proofs.Laws.Differences.{is_same, is_half, is_mod}
use Rattle.lattice.specs.Lattice.{sum_z, back_at}

module _ (r : ℕ) (v : List ℤ) (l : 4 ≤ r) (d : 32768 % r ≡ 0) where
  whole : r * (32768 / r) ≡ 32768
  whole = let e = div-add-mod 32768 r in omega arith

  pub other_is : (i u : ℕ) → 0 < i → Is (get_or v i (pos 0)) u 32768 → u % r ≡ back_at r v i
  unfolding back_at
  other_is zero u h p = absurd (omega arith)
  other_is (suc i) u h p = sym (is_mod u r (32768 / r) (omega arith) (is_same _ _ p (omega (arith, whole))))

  -- 262144 is 8 × 32768
  pub first_is : (y : ℕ) → Is (get_or v 0 (pos 0) -ℤ sum_z (λ (i : ℕ). get_or v (suc i) (pos 0)) 7) y 262144 → y / 2 % r ≡ back_at r v 0
  unfolding back_at
  first_is y p =
      let e : r * (4 * (32768 / r)) ≡ 131072 = omega (arith, whole) in
      sym (is_mod (y / 2) r (4 * (32768 / r)) (omega arith) (is_same _ _ (is_half y 131072 p) (omega arith)))
