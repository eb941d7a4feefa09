-- `writer::write_reply` meets its contract: the rooms and the noise, then the layout and the tail. Assumes nothing.
use Rattle.std.proofs.lemmas.Result.{err_from_is_err_and}
use Rattle.ground.proofs.Laws.Numbered.{never_zero}
use Rattle.writer.proofs.Laws.Writes.{reply_early, reply_layout, reply_tail}
use Rattle.writer.proofs.write_reply.Goals as goal

pub returns-in_err-room_reply : goal.returns-in_err-room_reply
returns-in_err-room_reply c =
    let p = err_from_is_err_and c.from_residual.result c.from_residual.ensures.1 in
    rw (p.1, p.2) (reply_early _ _ _ _ c.in_err-room_reply.ensures (never_zero _))

pub returns-in_err-parts : goal.returns-in_err-parts
returns-in_err-parts c =
    let p = err_from_is_err_and c.from_residual-in_err-parts.result c.from_residual-in_err-parts.ensures.1 in
    rw (p.1, p.2) (reply_layout _ _ _ _ c.in_ok-room_reply.ensures c.in_err-parts.ensures.said (never_zero _))

pub returns : goal.returns
returns c =
    reply_tail _ _ _ _ c.in_ok-room_reply.ensures c.in_ok-parts.ensures.said c.in_ok-parts.ensures.parts c.tail_reply.ensures
