-- What the test of a short kind tells the code.
-- Assumes nothing.
use Prim.Native.Nat.{ℕ, ◌≤◌, ◌<◌}
use native.Mathlib.Omega.{arith}
use lib.Dec.{T, leb, leb→le}
use borrow.Author.Tests.{lt-leb, leb-true, leb-false}
use Rattle.ground.proofs.Laws.Cases.{by_bool}
use Rattle.short_words.specs.Short.{short}

module _ {kind : ℕ} (t : T (short kind)) where
  over_eight : 8 < kind → 20 ≤ kind
  over_eight h = let l : T (leb 20 kind) = rw (lt-leb kind 8 h) at t in leb→le 20 kind l

  pub short_norm : 16 ≤ kind → 20 ≤ kind
  short_norm h = over_eight (omega arith)

  pub short_bits : kind < 16 → kind ≤ 8
  short_bits h = by_bool (leb kind 8) (λ e. leb-true kind 8 e) (λ e. absurd (omega (arith, over_eight (leb-false kind 8 e))))
