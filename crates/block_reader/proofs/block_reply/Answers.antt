-- `block_reader::block_reply` meets its contract: the rooms first, then the frames. Assumes nothing.
use mathlib.Core.Path.{refl}
use Rattle.std.specs.Prelude.{Ok, Err}
use Rattle.std.proofs.lemmas.Result.{err_from_is_err_and}
use Rattle.ground.proofs.Laws.Numbered.{never_zero}
use Rattle.block_reader.proofs.Laws.Reading.{reply_early, reply_frames}
use Rattle.block_reader.proofs.block_reply.Goals as goal

pub returns-in_err-room_reply : goal.returns-in_err-room_reply
returns-in_err-room_reply c =
    let p = err_from_is_err_and c.from_residual.result c.from_residual.ensures.1 in
    rw (p.1, p.2) (reply_early _ _ _ _ c.in_err-room_reply.ensures (never_zero _))

pub returns-in_err-pass_block : goal.returns-in_err-pass_block
returns-in_err-pass_block c =
    let p = err_from_is_err_and c.from_residual-in_err-pass_block.result c.from_residual-in_err-pass_block.ensures.1 in
    rw (p.1, p.2) (reply_frames _ _ _ _ c.in_ok-room_reply.ensures refl (Err c.in_err-pass_block.field-0.0) c.in_err-pass_block.ensures)

pub returns : goal.returns
returns c =
    reply_frames _ _ _ _ c.in_ok-room_reply.ensures refl (Ok c.in_ok-pass_block.field-0) c.in_ok-pass_block.ensures
