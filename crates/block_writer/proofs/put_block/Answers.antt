-- `block_writer::put_block` meets its contract: each turn lays one frame into what is left. Assumes nothing.
use borrow.Author.Rules.{rules}
use lib.ListN.{length, take}
use lib.Seq.{length-take-le}
use mathlib.Core.Path.{◌≡◌}
use native.Mathlib.Omega.{arith}
use Rattle.block_writer.proofs.Laws.Writing.{turn, laid_none, laid_all, block_told, frame_ready, frame_laid}
use Rattle.block_writer.proofs.put_block.Goals as goal

pub shared_ref_as_front-given-items : goal.shared_ref_as_front-given-items
shared_ref_as_front-given-items c =
    (block_told _ _ _ _ _ c.requires).rooms.few

pub loop-c-init : goal.loop-c-init
loop-c-init c =
    laid_none

pub own-requires : goal.own-requires
own-requires c =
    let rooms = (block_told _ _ _ _ _ c.requires).rooms in
    let eight : length c.args.records.at ≡ 8 = search rules in
    let t = turn c.args.records c.args.channels c.loop-c.c eight rooms.few c.loop-c-test.true in
    (omega (arith, t, rooms.few), omega (arith, t, rooms.numbers), omega (arith, t, rooms.bytes))

pub put_frame-at-requires : goal.put_frame-at-requires
put_frame-at-requires c =
    let passing = block_told _ _ _ _ _ c.requires in
    let eight : length c.args.records.at ≡ 8 = search rules in
    let t = turn c.args.records c.args.channels c.loop-c.c eight passing.rooms.few c.loop-c-test.true in
    frame_ready passing c.loop-c.invariant t.0 t.1 c.own.ensures.0 c.own.ensures.1

pub overflow_add-at : goal.overflow_add-at
overflow_add-at c =
    let passing = block_told _ _ _ _ _ c.requires in
    let eight : length c.args.records.at ≡ 8 = search rules in
    let t = turn c.args.records c.args.channels c.loop-c.c eight passing.rooms.few c.loop-c-test.true in
    let laid = frame_laid passing c.loop-c.invariant t.0 t.1 c.own.ensures.0 c.own.ensures.1 _ _ c.put_frame-at.ensures.0 c.put_frame-at.ensures.1 in
    omega (arith, laid.inside)

pub loop-c-preserved : goal.loop-c-preserved
loop-c-preserved c =
    let passing = block_told _ _ _ _ _ c.requires in
    let eight : length c.args.records.at ≡ 8 = search rules in
    let t = turn c.args.records c.args.channels c.loop-c.c eight passing.rooms.few c.loop-c-test.true in
    frame_laid passing c.loop-c.invariant t.0 t.1 c.own.ensures.0 c.own.ensures.1 _ _ c.put_frame-at.ensures.0 c.put_frame-at.ensures.1

pub returns : goal.returns
returns c =
    let few = (block_told _ _ _ _ _ c.requires).rooms.few in
    let eight : length c.args.records.at ≡ 8 = search rules in
    let long : length (take c.args.channels c.args.records.at) ≡ c.args.channels = length-take-le c.args.channels c.args.records.at (omega (arith, few)) in
    laid_all c.loop-c.invariant _ (omega (arith, long, c.loop-c.auto.c-end))
