-- `frames::size_at` meets its contract: what is said, or what is there; none past the end. Assumes nothing.
use mathlib.Core.Logic.{inl, inr}
use native.Mathlib.Omega.{arith}
use Rattle.frames.proofs.Laws.Places.{size_there, size_past}
use Rattle.frames.proofs.size_at.Goals as goal

pub returns-in_default : goal.returns-in_default
returns-in_default c =
    elim c.in_default.ensures.lookup.0 [ inl h ↦ size_past _ _ h | inr h ↦ absurd (omega arith) ]

pub returns : goal.returns
returns c =
    size_there c.args.src.now c.args.at c.in-Some.ensures.lookup.0.2 c.said_bytes.ensures c.min.ensures
