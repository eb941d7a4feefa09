-- `frames::place_behind` meets its contract: each turn passes one frame more. Assumes nothing.
use mathlib.Core.Path.{◌≡◌}
use Rattle.frames.specs.Places.{place_from}
use Rattle.frames.proofs.place_behind.Given as goal

abbrev pub invariant-loop : goal.invariant-loop
invariant-loop l = l.p ≡ place_from l.src l.at l.counter
