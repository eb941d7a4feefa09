-- `frame::read` meets its contract: the rooms, then the frame; codes and tail are given out with 0 alone. Assumes nothing.
use native.Mathlib.Omega.{arith}
use lib.Seq.{length-take-le}
use Rattle.frame.proofs.Laws.Bodies.{room_short, given_stopped, given_done}
use Rattle.frame.proofs.read.Goals as goal

pub returns-then-codes-lt800 : goal.returns-then-codes-lt800
returns-then-codes-lt800 c =
    room_short _ c.then-codes-lt800.either c.refusal.ensures

pub copy_from_slice-requires : goal.copy_from_slice-requires
copy_from_slice-requires c =
    omega (arith, length-take-le 800 c.args.codes.now c.if-codes-lt800.false, c.read_frame-r.auto.found)

pub returns-then-r-eq-DONE : goal.returns-then-r-eq-DONE
returns-then-r-eq-DONE c =
    given_done c.args.codes.now c.args.tail.now (search) (search) c.read_frame-r.ensures (search) c.copy_from_slice.ensures.after c.from.ensures (search)

pub returns-else-r-eq-DONE : goal.returns-else-r-eq-DONE
returns-else-r-eq-DONE c =
    given_stopped _ _ (search) (search) c.read_frame-r.ensures (search)
