-- Every budget of a frame lies within what the allotment takes.
-- Assumes nothing.
use mathlib.Core.Bool.{Bool}
use mathlib.Core.List.{List}
use Prim.Native.Nat.{ℕ, ◌*◌, ◌≤◌, ◌<◌}
use native.Mathlib.Omega.{arith}
use Rattle.prefix.specs.Sizes.{mode_bytes}
use Rattle.prefix.proofs.Laws.Sizes.{mode_bounds}
use Rattle.norms.specs.Legal.{LegalNorms}
use Rattle.norms.proofs.Laws.Part.{norm_bits_lem}
use Rattle.frame.specs.Layout.{is_transient, flag_n, budget_of}
use Rattle.kinds.proofs.Laws.Budget.{noise_le}

-- Ψ is 640 − 4 − 306 − 2 = 328 to 2,560 − 4 − 134 = 2,422
pub budget_range : (mode : ℕ) (flags : List Bool) (norms : List ℕ) → mode < 20 → LegalNorms (is_transient flags) norms
    → (328 ≤ budget_of (mode_bytes mode * 8) flags norms) × (budget_of (mode_bytes mode * 8) flags norms ≤ 2422)
unfolding budget_of
budget_range mode flags norms h w =
    let n = norm_bits_lem (is_transient flags) (flag_n flags) norms w in
    let b = mode_bounds mode h in
    let s = noise_le (is_transient flags) in
    (omega (arith, n.1, b.0, s), omega (arith, n.0, b.1))
