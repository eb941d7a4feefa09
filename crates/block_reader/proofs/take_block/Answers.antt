-- `block_reader::take_block` meets its contract: each turn reads one channel's frame into its own parts of the lent memory.
-- Assumes nothing.
use Prim.Native.Nat.{◌+◌, ◌*◌, ◌-◌}
use borrow.Author.Rules.{rules}
use mathlib.Core.Path.{refl}
use native.Mathlib.Omega.{arith}
use Rattle.block_reader.proofs.Laws.Reading.{taken_none, taken_inside, taken_on, taken_more, taken_all}
use Rattle.block_reader.proofs.take_block.Goals as goal

pub loop-c-init : goal.loop-c-init
loop-c-init c =
    taken_none

pub slice_bounds-read-count : goal.slice_bounds-read-count
slice_bounds-read-count c =
    taken_inside c.loop-c.invariant

pub slice_bounds-read-start : goal.slice_bounds-read-start
slice_bounds-read-start c =
    taken_inside c.loop-c.invariant

pub overflow_add-at : goal.overflow_add-at
overflow_add-at c =
    omega (arith, taken_on c.loop-c.invariant c.size_at-at.ensures)

pub loop-c-preserved : goal.loop-c-preserved
loop-c-preserved c =
    taken_more c.loop-c.invariant (search rules) c.requires.1
    c.requires.2 {m = c.loop-c.c * 800 + 800 - c.loop-c.c * 800} {j = c.loop-c.c * 320 + 320 - c.loop-c.c * 320} c.requires.0 refl (omega arith)
    (omega arith) refl refl c.read.ensures.0 c.read.ensures.1 c.read.ensures.2 (search rules) (search rules) c.size_at-at.ensures

pub returns : goal.returns
returns c =
    taken_all c.loop-c.invariant (omega arith) c.requires.0
