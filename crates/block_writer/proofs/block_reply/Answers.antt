-- `block_writer::block_reply` meets its contract: the rooms, the frames' causes, and last the output. Assumes nothing.
use borrow.Author.Rules.{rules}
use lib.ListN.{length}
use mathlib.Core.Path.{◌≡◌, sym}
use native.Mathlib.Omega.{arith}
use Rattle.std.proofs.lemmas.Result.{err_from_is_err_and}
use Rattle.ground.proofs.Laws.Numbered.{never_zero}
use Rattle.frames.proofs.Laws.Rooms.{rooms_told}
use Rattle.block_writer.proofs.Laws.Writing.{block_long, block_early, block_late, block_short, block_done}
use Rattle.block_writer.proofs.block_reply.Goals as goal

pub returns-in_err-room_reply : goal.returns-in_err-room_reply
returns-in_err-room_reply c =
    let p = err_from_is_err_and c.from_residual.result c.from_residual.ensures.1 in
    rw (p.1, p.2) (block_early _ _ _ _ _ c.in_err-room_reply.ensures (never_zero _))

pub frames_reply-requires : goal.frames_reply-requires
frames_reply-requires c =
    let r = rooms_told _ _ _ (sym c.in_ok-room_reply.ensures) in
    (r.few, r.numbers, r.bytes)

pub returns-in_err-frames_reply : goal.returns-in_err-frames_reply
returns-in_err-frames_reply c =
    let p = err_from_is_err_and c.from_residual-in_err-frames_reply.result c.from_residual-in_err-frames_reply.ensures.1 in
    rw (p.1, p.2) (block_late _ _ _ _ _ (sym c.in_ok-room_reply.ensures) c.in_err-frames_reply.ensures (never_zero _))

pub shared_ref_as_front-block_bytes : goal.shared_ref_as_front-block_bytes
shared_ref_as_front-block_bytes c =
    (rooms_told _ _ _ (sym c.in_ok-room_reply.ensures)).few

pub returns-then-room-block_bytes : goal.returns-then-room-block_bytes
returns-then-room-block_bytes c =
    let rooms = sym c.in_ok-room_reply.ensures in
    let frames = sym c.in_ok-frames_reply.ensures in
    let eight : length c.args.records.at ≡ 8 = search rules in
    let few = (rooms_told _ _ _ rooms).few in
    block_short _ _ _ _ _ rooms frames
    (omega (arith, c.block_bytes.ensures, block_long c.args.records c.args.codes.now c.args.tails.now c.args.channels (omega (arith, few))))

pub returns : goal.returns
returns c =
    let rooms = sym c.in_ok-room_reply.ensures in
    let frames = sym c.in_ok-frames_reply.ensures in
    let eight : length c.args.records.at ≡ 8 = search rules in
    let few = (rooms_told _ _ _ rooms).few in
    block_done _ _ _ _ _ rooms frames
    (omega (arith, c.block_bytes.ensures, block_long c.args.records c.args.codes.now c.args.tails.now c.args.channels (omega (arith, few))))
