-- `choice::choose_flag_c` meets its contract: by the plan of the record with FlagC 0. Assumes nothing.
use mathlib.Core.Path.{refl, sym}
use borrow.Author.Tests.{not-true, not-false}
use Rattle.std.proofs.lemmas.Result.{err_from_is_err_and}
use Rattle.ground.proofs.Laws.Numbered.{never_zero}
use Rattle.layout.proofs.Laws.Parts.{room_800}
use Rattle.choice.proofs.Laws.Choice.{choice_start, choice_ready, choice_stops, choice_done}
use Rattle.choice.proofs.choose_flag_c.Goals as goal

pub returns-in_err-start_reply : goal.returns-in_err-start_reply
returns-in_err-start_reply c =
    let p = err_from_is_err_and c.from_residual.result c.from_residual.ensures.1 in
    rw (p.1, p.2) (choice_start _ _ _ c.in_err-start_reply.ensures (never_zero _))

pub slice_bounds-numbers-end : goal.slice_bounds-numbers-end
slice_bounds-numbers-end c =
    sym (room_800 _ _ _ c.in_ok-start_reply.ensures refl)

pub all_fit-requires : goal.all_fit-requires
all_fit-requires c =
    (choice_ready _ c.args.codes.now c.in_ok-start_reply.ensures refl c.plain.ensures c.plan_of-plan.ensures).same

pub returns-then-not-all_fit : goal.returns-then-not-all_fit
returns-then-not-all_fit c =
    choice_stops _ _ c.in_ok-start_reply.ensures refl c.plain.ensures c.plan_of-plan.ensures c.all_fit.ensures (search not-true)

pub words_cheaper-requires : goal.words_cheaper-requires
words_cheaper-requires c =
    let ready = choice_ready _ c.args.codes.now c.in_ok-start_reply.ensures refl c.plain.ensures c.plan_of-plan.ensures in
    (ready.same, ready.few)

pub returns : goal.returns
returns c =
    choice_done _ _ c.in_ok-start_reply.ensures refl c.plain.ensures c.plan_of-plan.ensures c.all_fit.ensures (search not-false) c.words_cheaper.ensures
