-- `boundary::each` meets its contract: each turn makes one more. Assumes nothing.
use Rattle.std.proofs.Common.{◌≡◌, ℕ, ◌<◌, slice_index_or, length}
use Rattle.boundary.proofs.each.Given as goal

abbrev pub invariant-loop-k : goal.invariant-loop-k
invariant-loop-k g l =
    (length l.place-items ≡ 8) × ((k : ℕ) (d : _) (e : _) → k < l.k → goal.F-post g l.made (slice_index_or l.list k d) (slice_index_or l.place-items k e))
