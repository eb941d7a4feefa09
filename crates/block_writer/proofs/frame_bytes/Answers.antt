-- `block_writer::frame_bytes` meets its contract. Assumes nothing.
use native.Mathlib.Omega.{arith}
use Rattle.block_writer.proofs.Laws.Writing.{full_bytes}
use Rattle.block_writer.proofs.frame_bytes.Goals as goal

pub returns-in-Some : goal.returns-in-Some
returns-in-Some c =
    (rw c.in-Some.is (omega arith), full_bytes c.in-Some.record (omega arith))
