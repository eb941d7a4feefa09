-- `writer::tail_reply` meets its contract: the tail's count, then its padding. Assumes nothing.
use mathlib.Core.Path.{◌≡◌, ap, ◌∙◌}
use mathlib.Core.Bool.{Bool}
use mathlib.Core.List.{List}
use Prim.Native.Nat.{ℕ, ◌-◌}
use Rattle.ground.proofs.Laws.Refusals.{by_rows}
use Rattle.bits.specs.Bits.{view}
use Rattle.tails.specs.Tails.{clear}
use Rattle.writer.specs.Writes.{tail_causes}
use Rattle.writer.proofs.tail_reply.Goals as goal
use Rattle.writer.proofs.tail_reply.Goals.{else-count-left-via-then-count-left+else-all_clear, else-count-left-via-else-count-left}

-- the test of the padding, by the tail's count
padding : (tail : List ℕ) {n k : ℕ} {b : Bool} → n ≡ k → b ≡ clear (view tail n (2560 - n)) → b ≡ clear (view tail k (2560 - k))
padding tail e p = p ∙ ap (λ (i : ℕ). clear (view tail i (2560 - i))) e

pub returns-then-all_clear : goal.returns-then-all_clear
unfolding tail_causes
returns-then-all_clear c =
    let padded = padding c.args.tail.now c.from.ensures c.all_clear.ensures in
    search (by_rows, padded)

pub returns-else-count-left : goal.returns-else-count-left
unfolding tail_causes
returns-else-count-left c =
    elim c.else-count-left.branch [
      | else-count-left-via-then-count-left+else-all_clear w ↦ (let padded = padding c.args.tail.now w.from.ensures w.all_clear.ensures in search (by_rows, padded))
      | else-count-left-via-else-count-left w ↦ search by_rows
    ]
