-- `block_writer::frame_reply` meets its contract. Assumes nothing.
use Rattle.ground.proofs.Laws.Refusals.{no_row}
use Rattle.block_writer.proofs.frame_reply.Goals as goal

pub returns-in-None : goal.returns-in-None
returns-in-None c =
    rw c.in-None.is no_row
