-- `bits::read_bits` meets its contract: the bits out of the window, by a shift and a remainder. Assumes nothing.
use Rattle.bits.proofs.Laws.Views.{window_read}
use Rattle.bits.proofs.read_bits.Goals as goal

pub returns : goal.returns
returns c =
    window_read c.args.s.now c.args.place _ c.min-n.ensures c.window-w.ensures
