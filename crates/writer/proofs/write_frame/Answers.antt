-- `writer::write_frame` meets its contract: nothing is written before all replies are 0. Assumes nothing.
use mathlib.Core.Path.{refl, sym, ◌∙◌}
use native.Mathlib.Omega.{arith}
use borrow.Author.Rules.{rules}
use Rattle.std.proofs.lemmas.Result.{err_from_is_err_and}
use Rattle.ground.proofs.Laws.Numbered.{never_zero}
use Rattle.layout.proofs.Laws.Parts.{room_800, parts_ready, planned}
use Rattle.writer.proofs.Laws.Writes.{rooms_told, reply_early, reply_start, reply_codes, reply_planned}
use Rattle.writer.proofs.Laws.Bodies.{refuses, ready, pass_prefix, pass_out}
use Rattle.writer.proofs.write_frame.Goals as goal

pub returns-in_err-room_reply : goal.returns-in_err-room_reply
returns-in_err-room_reply c =
    let p = err_from_is_err_and c.from_residual.result c.from_residual.ensures.1 in
    rw (p.1, p.2) (refuses _ _ _ _ _ (reply_early _ _ _ _ c.in_err-room_reply.ensures (never_zero _)))

pub returns-in_err-start_reply : goal.returns-in_err-start_reply
returns-in_err-start_reply c =
    let p = err_from_is_err_and c.from_residual-in_err-start_reply.result c.from_residual-in_err-start_reply.ensures.1 in
    rw (p.1, p.2) (refuses _ _ _ _ _ (reply_start _ _ _ _ c.in_ok-room_reply.ensures c.in_err-start_reply.ensures (never_zero _)))

pub slice_bounds-numbers-end : goal.slice_bounds-numbers-end
slice_bounds-numbers-end c =
    sym (room_800 _ _ _ c.in_ok-start_reply.ensures refl)

pub parts_in-requires : goal.parts_in-requires
parts_in-requires c =
    parts_ready c.args.r c.args.codes.now c.in_ok-start_reply.ensures refl c.plan_of-plan.ensures

pub returns-in_err-parts : goal.returns-in_err-parts
returns-in_err-parts c =
    let p = err_from_is_err_and c.from_residual-in_err-parts.result c.from_residual-in_err-parts.ensures.1 in
    rw (p.1, p.2) (refuses _ _ _ _ _
    (reply_codes _ _ _ _ c.in_ok-room_reply.ensures c.in_ok-start_reply.ensures c.plan_of-plan.ensures c.in_err-parts.ensures.said (never_zero _)))

pub returns-in_err-tail_reply : goal.returns-in_err-tail_reply
returns-in_err-tail_reply c =
    let p = err_from_is_err_and c.from_residual-in_err-tail_reply.result c.from_residual-in_err-tail_reply.ensures.1 in
    rw (p.1, p.2) (refuses _ _ _ _ _
    (reply_planned _ _ _ _ c.in_ok-room_reply.ensures c.in_ok-start_reply.ensures c.plan_of-plan.ensures c.in_ok-parts.ensures.said c.in_ok-parts.ensures.parts
    c.in_err-tail_reply.ensures))

pub returns-in_err-out : goal.returns-in_err-out
returns-in_err-out c =
    absurd (pass_prefix (rooms_told _ _ _ _ (sym c.in_ok-room_reply.ensures)) c.in_err-out.ensures)

pub bounds-out-0 : goal.bounds-out-0
bounds-out-0 c =
    omega (arith, (rooms_told _ _ _ _ (sym c.in_ok-room_reply.ensures)).out)

pub write_body-requires : goal.write_body-requires
write_body-requires c =
    let P = planned _ _ c.plan_of-plan.ensures in
    (P.kinds, P.long, room_800 _ _ _ c.in_ok-start_reply.ensures refl)

pub returns : goal.returns
returns c =
    let last =
    reply_planned _ _ c.args.tail.now _ c.in_ok-room_reply.ensures c.in_ok-start_reply.ensures c.plan_of-plan.ensures c.in_ok-parts.ensures.said
    c.in_ok-parts.ensures.parts c.in_ok-tail_reply.ensures in
    pass_out (ready _ _ _ c.args.out.now last (search rules) (λ i. (c.slice_known-1.given i).fits)) (c.from-n.ensures ∙ c.bytes.ensures) c.in_ok-out.ensures
    c.write_body.ensures
