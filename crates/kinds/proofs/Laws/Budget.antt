-- Noise bits and who competes, by their tests; rates and kinds as the code makes them.
-- Assumes nothing.
use mathlib.Core.Path.{◌≡◌, ap, ap₂, ◌∙◌}
use mathlib.Core.Bool.{Bool, true, false}
use mathlib.Core.List.{List}
use Prim.Native.Nat.{ℕ, ◌-◌, ◌≤◌}
use borrow.Author.Tests.{eq-eqb, ne_eqb}
use native.Mathlib.Omega.{arith}
use Rattle.allotment.specs.Allotment.{shares_of}
use Rattle.kinds.specs.Kinds.{kinds}
use Rattle.kinds.specs.Budget.{noise_bits, all_compete, kinds_at}

pub noise_none : (t : Bool) → t ≡ true → 0 ≡ noise_bits t
unfolding noise_bits
noise_none t e = rw e

pub noise_two : (t : Bool) → t ≡ false → 2 ≡ noise_bits t
unfolding noise_bits
noise_two t e = rw e

pub wide_small : (total : ℕ) (l : Bool) → total ≡ 640 → l ≡ all_compete total l
unfolding all_compete
wide_small total l e = rw (eq-eqb total 640 e)

pub wide_other : (total : ℕ) (l : Bool) → (total ≡ 640 → ⊥) → true ≡ all_compete total l
unfolding all_compete
wide_other total l e = rw (ne_eqb total 640 e)

pub noise_le : (b : Bool) → noise_bits b ≤ 2
unfolding noise_bits
noise_le true = omega arith
noise_le false = omega arith

-- ---- what the code makes of the flags, step by step

pub kinds_made : {m k b : ℕ} {rates ks : List ℕ} (t w c : Bool) (norms : List ℕ) (end at : ℕ) → m ≡ end - at → k ≡ noise_bits t → b ≡ m - k
    → rates ≡ (shares_of t w norms b).rates → ks ≡ kinds c rates → ks ≡ kinds_at t w c norms (end - at - noise_bits t)
unfolding kinds_at
kinds_made t w c norms end at em ek eb er es =
    es ∙ ap (kinds c) (er ∙ ap (λ (n : ℕ). (shares_of t w norms n).rates) (eb ∙ ap₂ (λ (x y : ℕ). x - y) em ek))
