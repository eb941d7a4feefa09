-- `words::column_word` meets its contract: by what the look-up's entry says of the bits at the place. Assumes nothing.
use Prim.Native.Nat.{◌≤◌, ◌<◌}
use native.Mathlib.Omega.{arith}
use Rattle.bits.proofs.Laws.Views.{view_lt}
use Rattle.words.proofs.Laws.ReadingTable.{column_lacking_cut, column_lacking, column_cut, column_fine}
use Rattle.words.proofs.column_word.Goals as goal

pub overflow_add-c : goal.overflow_add-c
overflow_add-c c =
    omega (arith, view_lt c.args.s.now c.args.at 7)

pub reading_entry-e-requires : goal.reading_entry-e-requires
reading_entry-e-requires c =
    omega (arith, view_lt c.args.s.now c.args.at 7)

pub returns-then-left-lt7 : goal.returns-then-left-lt7
returns-then-left-lt7 c =
    let h : c.args.left < 7 = omega arith in search column_lacking_cut

pub returns-then-e-eq0 : goal.returns-then-e-eq0
returns-then-e-eq0 c =
    let h : 7 ≤ c.args.left = omega arith in search column_lacking

pub returns-then-left-n : goal.returns-then-left-n
returns-then-left-n c =
    search column_cut

pub returns : goal.returns
returns c =
    search column_fine
