-- `layout::parts_for` meets its contract: the start's refusal, or the parts by the plan. Assumes nothing.
use mathlib.Core.Path.{refl, sym, ◌∙◌}
use Rattle.std.proofs.lemmas.Result.{err_from_is_err_and}
use Rattle.ground.proofs.Laws.Numbered.{never_zero}
use Rattle.layout.proofs.Laws.Parts.{room_800, parts_ready, start_first, codes_first, layout_start, layout_planned}
use Rattle.layout.proofs.parts_for.Goals as goal

pub returns-in_err-start_reply : goal.returns-in_err-start_reply
returns-in_err-start_reply c =
    let p = err_from_is_err_and c.from_residual.result c.from_residual.ensures.1 in
    rw (p.1, p.2) (record {
      said = start_first _ _ _ c.in_err-start_reply.ensures (never_zero _);
      parts = layout_start _ _ _ c.in_err-start_reply.ensures (never_zero _);
    })

pub slice_bounds-parts_in-end-2 : goal.slice_bounds-parts_in-end-2
slice_bounds-parts_in-end-2 c =
    let room = room_800 c.args.r c.args.codes.now _ c.in_ok-start_reply.ensures refl in
    search (room, sym)

pub parts_in-requires : goal.parts_in-requires
parts_in-requires c =
    parts_ready c.args.r c.args.codes.now c.in_ok-start_reply.ensures refl c.plan_of-plan.ensures

pub returns : goal.returns
returns c =
    record {
      said = codes_first _ _ _ c.in_ok-start_reply.ensures refl c.plan_of-plan.ensures c.parts_in.ensures.said;
      parts = c.parts_in.ensures.parts ∙ layout_planned _ _ _ c.in_ok-start_reply.ensures refl _ c.plan_of-plan.ensures;
    }
