-- The empty frame with and without room, and that it reads as one.
-- Assumes nothing.
use mathlib.Core.Path.{◌≡◌, refl}
use mathlib.Core.List.{List, [], ◌∷◌}
use Prim.Native.Nat.{ℕ, suc}
use native.Mathlib.Omega.{arith}
use lib.ListN.{length, set}
use borrow.Author.Tests.{ne_eqb}
use Rattle.ground.specs.Replies.{done, short_room}
use Rattle.prefix.specs.Prefix.{prefix_of, prefix_byte}
use Rattle.prefix.specs.Sizes.{table_a2}
use Rattle.prefix.specs.declared.Prefix.TheVariants.{NoData}
use Rattle.writer.specs.Empty.{empty_reply, empty_after}

pub empty_none : (out : List ℕ) → length out ≡ 0 → (record { reply = short_room; next = 0 } ≡ empty_reply (length out)) × (out ≡ empty_after out)
unfolding empty_reply empty_after
empty_none [] e = (refl, refl)
empty_none (x ∷ out) e = absurd (omega arith)

pub empty_some : (out : List ℕ) → (length out ≡ 0 → ⊥) → (record { reply = done; next = 1 } ≡ empty_reply (length out)) × (set out 0 0 ≡ empty_after out)
unfolding empty_reply empty_after
empty_some [] e = absurd (e refl)
empty_some (x ∷ out) e = (rw (ne_eqb (suc (length out)) 0 e), refl)

-- an empty frame that was written reads as no data
pub empty_read : (x : ℕ) (out : List ℕ) → prefix_of (empty_after (x ∷ out)) ≡ NoData
unfolding empty_after prefix_of prefix_byte table_a2
empty_read x out = rw (ne_eqb (suc (length out)) 0 (λ e. omega arith))
