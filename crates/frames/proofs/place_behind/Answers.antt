-- `frames::place_behind` meets its contract: each turn passes one frame more. Assumes nothing.
use Prim.Native.Nat.{◌+◌}
use native.Mathlib.Omega.{arith}
use Rattle.frames.proofs.Laws.Places.{place_none, place_turn, place_inside}
use Rattle.frames.proofs.place_behind.Goals as goal

pub loop-init : goal.loop-init
loop-init c =
    place_none _ _

pub overflow_add-p : goal.overflow_add-p
overflow_add-p c =
    let more = place_turn c.args.src.now c.args.at c.loop.counter c.loop.invariant c.size_at-p.ensures in
    omega (arith, more, place_inside c.args.src.now c.args.at (c.loop.counter + 1) c.requires)

pub loop-preserved : goal.loop-preserved
loop-preserved c =
    place_turn c.args.src.now c.args.at c.loop.counter c.loop.invariant c.size_at-p.ensures
