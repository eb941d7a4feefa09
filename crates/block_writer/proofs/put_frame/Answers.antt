-- `block_writer::put_frame` meets its contract: an empty frame, or the record's. Assumes nothing.
use Rattle.block_writer.proofs.Laws.Writing.{bare_put, full_put}
use Rattle.block_writer.proofs.put_frame.Goals as goal

pub returns-in-None : goal.returns-in-None
returns-in-None c =
    rw c.in-None.is (bare_put c.args.out.now _ _ (rw c.in-None.is at c.requires.1) c.write_empty.ensures.0 c.write_empty.ensures.1)

pub returns-in-Some : goal.returns-in-Some
returns-in-Some c =
    rw c.in-Some.is
    (full_put _ _ _ c.args.out.now _ _ (rw c.in-Some.is at c.requires.0) (rw c.in-Some.is at c.requires.1) c.write.ensures.0 c.write.ensures.1)
