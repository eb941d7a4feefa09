-- `tails::copy_bits` meets its contract: the bits so far are laid. Assumes nothing.
use native.Mathlib.Omega.{arith}
use Rattle.tails.proofs.Laws.Tails.{copy_start, copy_turn, copy_end}
use Rattle.tails.proofs.copy_bits.Goals as goal

pub loop-j-init : goal.loop-j-init
loop-j-init c =
    copy_start (λ k. (c.type_inv.out k).fits)

pub loop-j-preserved : goal.loop-j-preserved
loop-j-preserved c =
    copy_turn c.loop-j.invariant c.write_bits.ensures c.read_bits.ensures (omega arith)

-- the last step
pub returns-2 : goal.returns-2
returns-2 c =
    copy_end (copy_turn {i = c.args.n} c.loop-j.invariant c.write_bits.ensures c.read_bits.ensures (omega arith)) (omega arith)
