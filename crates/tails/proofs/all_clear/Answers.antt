-- `tails::all_clear` meets its contract: the bits passed are 0. Assumes nothing.
use Rattle.std.proofs.Common.{sym, arith}
use Rattle.tails.proofs.Laws.Tails.{clear_no, clear_turn, clear_end}
use Rattle.tails.proofs.all_clear.Goals as goal

pub returns-then-read_bits-ne0 : goal.returns-then-read_bits-ne0
returns-then-read_bits-ne0 c =
    sym (clear_no c.loop-p.invariant c.read_bits.ensures (search))

pub loop-p-preserved : goal.loop-p-preserved
loop-p-preserved c =
    clear_turn c.loop-p.invariant c.read_bits.ensures (search) (omega arith)

pub returns : goal.returns
returns c =
    search (clear_end, sym)

-- the last step
pub returns-else-read_bits-ne0 : goal.returns-else-read_bits-ne0
returns-else-read_bits-ne0 c =
    sym (clear_end (clear_turn c.loop-p.invariant c.read_bits.ensures {q = c.args.end} (search) (omega arith)) (omega arith))
