-- The loop that adds the weights, each at its place. Assumes nothing.
use mathlib.Core.Path.{◌≡◌, refl, ap, ◌∙◌}
use mathlib.Core.List.{List}
use Prim.Native.Nat.{ℕ, suc, ◌+◌, ◌*◌, ◌%◌, ◌^◌, ◌<◌, ◌≤◌}
use native.Mathlib.Nat.{mod-eq_of_lt, mul-le-mul_right}
use native.Mathlib.Numerals.{add-one}
use native.Mathlib.Omega.{arith}
use lib.IntN.{ℤ, pos}
use lib.ListN.{get_or}
use lib.Pow.{pow_mono}
use lib.Signed.{mag}
use mir.Facts.{to_z-of_z}
use mir.Syntax.{w16}
use mir.Val.{to_z, of_z}
use Rattle.ground.specs.Sums.{sum_to}
use Rattle.ground.proofs.Laws.Sums.{sum_more}
use Rattle.codebook.specs.Packed.{weight, code}

-- a weight shifted to its place loses no bit, and the next place's weights are larger
pub shifted : {w i : ℕ} → w ≤ 256 → i < 8 → (w * 2 ^ i % 4294967296 ≡ w * 2 ^ i) × (w * 2 ^ i ≤ 256 * 2 ^ i) × (2 ^ i ≤ 256)
shifted {w} {i} l h =
    let p : 2 ^ i ≤ 2 ^ 8 = pow_mono {j = 8} (omega arith) in
    let m : w * 2 ^ i ≤ 256 * 2 ^ i = mul-le-mul_right (2 ^ i) l in
    (mod-eq_of_lt (omega arith), m, p)

-- the weights of the first i numbers are added
pub record Weighing (v : List ℤ) (c i : ℕ) : Type 0 where
  pub upto : i ≤ 8
  pub is : c ≡ sum_to (λ (j : ℕ). weight (get_or v j (pos 0)) * 2 ^ j) i
  pub most : c + 256 ≤ 256 * 2 ^ i

pub weighing_none : {v : List ℤ} → Weighing v 0 0
unfolding sum_to
weighing_none = record { upto = omega arith; is = refl; most = omega arith }

pub weighing_more : {v : List ℤ} {c i w : ℕ} → Weighing v c i → i < 8 → mag (get_or v i (pos 0)) < 32768
    → (w ≡ weight (to_z w16 (of_z w16 (get_or v i (pos 0))))) × (w ≤ 256) → Weighing v (c + w * 2 ^ i % 4294967296) (i + 1)
weighing_more {v} {c} {i} {w} p b m h =
    let s = shifted {w = w} {i = i} h.1 b in
    let e : w ≡ weight (get_or v i (pos 0)) = h.0 ∙ ap weight (to_z-of_z {w = w16} {z = get_or v i (pos 0)} (record { sfits = m })) in
    let f : w * 2 ^ i ≡ weight (get_or v i (pos 0)) * 2 ^ i = ap (λ (n : ℕ). n * 2 ^ i) e in
    let n : 2 ^ (i + 1) ≡ 2 ^ suc i = ap (λ (n : ℕ). 2 ^ n) (add-one i) in
    record {
      upto = omega arith;
      is = omega (arith, p.is, sum_more (λ (j : ℕ). weight (get_or v j (pos 0)) * 2 ^ j) i);
      most = omega (arith, p.most);
    }

pub weighing_done : {v : List ℤ} {c i : ℕ} → Weighing v c i → 8 ≤ i → (c ≡ code v) × (c < 65536)
unfolding code
weighing_done {v} {c} {i} p b =
    let e : i ≡ 8 = omega (arith, p.upto) in
    let n = ap (λ (n : ℕ). 2 ^ n) e in
    (p.is ∙ ap (sum_to (λ (j : ℕ). weight (get_or v j (pos 0)) * 2 ^ j)) e, omega (arith, p.most))
