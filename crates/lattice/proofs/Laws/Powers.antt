-- The place that is changed, and 2 to a rate of 2 to 9: at least 4, and a divisor of 32768.
-- Assumes nothing.
use mathlib.Core.Path.{◌≡◌, refl, sym, ap, ◌∙◌}
use mathlib.Core.Bool.{cond}
use mathlib.Core.List.{List}
use Prim.Native.Nat.{ℕ, ◌+◌, ◌*◌, ◌-◌, ◌%◌, ◌^◌, ◌≤◌}
use native.Mathlib.Nat.{mod-eq_of_lt, mul-mod_right}
use native.Mathlib.Omega.{arith}
use lib.Dec.{eqb}
use lib.Pow.{pow_mono, pow-add}
use Rattle.std.specs.declared.option.Option.{Option}
use Rattle.std.specs.declared.option.Option.TheVariants.{Some, None}
use Rattle.lattice.specs.Lattice.{rounded_sum, worst}

-- the place that is changed, if there is one
unfoldable pub changed_place : ℕ → List ℕ → Option ℕ
changed_place r k = cond (eqb (rounded_sum r k % 2) 1) (Some (worst r k)) None

-- a lower power divides a higher one
divides : (m n k : ℕ) → m + n ≡ k → 2 ^ k % 2 ^ m ≡ 0
divides m n k e = ap (λ (j : ℕ). j % 2 ^ m) (sym (ap (λ (j : ℕ). 2 ^ j) e) ∙ pow-add 2 m n) ∙ mul-mod_right (2 ^ m) (2 ^ n)

-- what holds of the r of a rate
pub record Power (n r : ℕ) : Type 0 where
  pub is : r ≡ 2 ^ n
  pub low : 4 ≤ r
  pub high : r ≤ 512
  pub even : r % 2 ≡ 0
  pub divides : 32768 % r ≡ 0

pub powers : (n : ℕ) → 2 ≤ n → n ≤ 9 → Power n ((1 * 2 ^ n) % 2 ^ 32)
powers n a b =
    let l : 2 ^ n ≤ 2 ^ 9 = pow_mono b in
    let g : 2 ^ 2 ≤ 2 ^ n = pow_mono a in
    let e : (1 * 2 ^ n) % 2 ^ 32 ≡ 2 ^ n = ap (λ (m : ℕ). m % 2 ^ 32) (omega arith) ∙ mod-eq_of_lt (omega arith) in
    rw e
    (record {
      is = refl;
      low = omega arith;
      high = omega arith;
      even = divides 1 (n - 1) n (omega arith);
      divides = divides n (15 - n) 15 (omega arith);
    })
