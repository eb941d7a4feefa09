-- Two spelt words made one.
-- Assumes nothing.
use mathlib.Core.Path.{◌≡◌, sym, ap, ap₂, ◌∙◌}
use mathlib.Core.Bool.{Bool}
use mathlib.Core.List.{List, ◌++◌}
use Prim.Native.Nat.{ℕ, ◌+◌, ◌*◌, ◌%◌, ◌^◌, ◌≤◌, ◌<◌, min}
use native.Mathlib.Nat.{mod-lt}
use native.Mathlib.Omega.{arith}
use lib.ListN.{length, length-append}
use lib.Pow.{pow_pos, pow_mono, shl_lt, shl_exact}
use Rattle.bits.specs.Bits.{word, laid}
use Rattle.bits.proofs.Laws.NumbersAsBits.{word_two, length_word, shifted_one}

-- two spelt words, made one, lay both
module _ {n v m w : ℕ} {a b : List Bool} (x : (word n v ≡ a) × (n ≤ 8) × (v < 65536)) (y : (word m w ≡ b) × (m ≤ 8) × (w < 65536)) where
  -- the number that the code makes of them
  made : v * 2 ^ m % 2 ^ 64 + w % (1 * 2 ^ m % 2 ^ 64) ≡ v * 2 ^ m + w % 2 ^ m
  made = ap₂ ◌+◌ (shl_exact 16 m 64 x.2 (omega (arith, y.1))) (ap (λ (k : ℕ). w % k) (shifted_one m (omega (arith, y.1))))

  pub pair_fits : v * 2 ^ m % 2 ^ 64 + w % (1 * 2 ^ m % 2 ^ 64) < 18446744073709551616
  pair_fits =
      let few : 2 ^ m ≤ 256 = pow_mono {j = 8} y.1 in
      let high : 2 ^ (16 + m) ≤ 16777216 = pow_mono {j = 24} (omega (arith, y.1)) in
      rw made (omega (arith, shl_lt {a = v} 16 m x.2, mod-lt w (pow_pos m)))

  pub pair_long : n + m ≡ length (a ++ b)
  pair_long = sym (length-append a b ∙ ap₂ ◌+◌ (ap length (sym x.0) ∙ length_word n v) (ap length (sym y.0) ∙ length_word m w))

  pub pair_laid : (s t : List ℕ) (at : ℕ) → t ≡ laid s at (word (min (n + m) 16) (v * 2 ^ m % 2 ^ 64 + w % (1 * 2 ^ m % 2 ^ 64)))
      → t ≡ laid s at (a ++ b)
  pair_laid s t at e =
      let k : min (n + m) 16 ≡ n + m = omega (arith, x.1, y.1) in
      e ∙ ap₂ (λ (z u : ℕ). laid s at (word z u)) k made ∙ ap (laid s at) (word_two n v m w ∙ ap₂ ◌++◌ x.0 y.0)
