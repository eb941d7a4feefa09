-- A signed number of 16 bits that is read from an array comes through its bits.
-- Assumes nothing.
use mathlib.Core.Path.{subst}
use Prim.Native.Nat.{ℕ, ◌<◌}
use lib.IntN.{ℤ}
use lib.Signed.{mag}
use mir.Facts.{to_z-of_z}
use mir.Syntax.{w16}
use mir.Val.{to_z, of_z}
use Rattle.ground.specs.Differences.{Is}

pub read : (z : ℤ) {a b : ℕ} → mag z < 32768 → Is (to_z w16 (of_z w16 z)) a b → Is z a b
read z {a = a} {b = b} h p = subst (λ (y : ℤ). Is y a b) (to_z-of_z {w = w16} (record { sfits = h })) p
