-- `joining::check_all` meets its contract: each turn checks one recording more, and the counts decide last. Assumes nothing.
use Prim.Native.Nat.{◌≤◌}
use lib.ListN.{length}
use mathlib.Core.Path.{◌≡◌, refl, ap, ◌∙◌, subst}
use native.Mathlib.Omega.{arith}
use Rattle.recording.specs.Blocks.{walk_blocks}
use Rattle.channels.specs.declared.Copied.{Copied}
use Rattle.joining.specs.Joining.{own_check}
use Rattle.joining.proofs.Laws.Joining.{Checked, checked_none, checked_stop, checked_more, test_told, checked_not, checked_all}
use Rattle.channels.specs.Copies.{refused_copy}
use Rattle.joining.proofs.check_all.Goals as goal

pub loop-c-init : goal.loop-c-init
loop-c-init c =
    checked_none

pub returns-then-found-ne-DONE : goal.returns-then-found-ne-DONE
returns-then-found-ne-DONE c =
    let own = c.walk_blocks-found.ensures ∙ ap (walk_blocks 1) c.recording_at.ensures in
    checked_stop c.loop-c.invariant _ (omega arith) _ own (λ e. omega arith) _ c.stopped.ensures

pub loop-c-preserved : goal.loop-c-preserved
loop-c-preserved c =
    let own = c.walk_blocks-found.ensures ∙ ap (walk_blocks 1) c.recording_at.ensures in
    checked_more c.loop-c.invariant (omega arith) _ own (omega arith)

pub returns-then-are_all : goal.returns-then-are_all
returns-then-are_all c =
    let own = own_check c.args.src.now c.args.lengths.now in
    let all : c.loop-c.c ≡ length c.args.lengths.now = omega (arith, c.loop-c.auto.c-end) in
    let sound = subst (Checked own c.loop-c.counts) all c.loop-c.invariant in
    let few : length c.args.lengths.now ≤ 8 = omega arith in
    checked_all sound c.requires.1 few refl _ (test_told sound c.requires.1 few refl _ c.are_all.ensures.0 c.are_all.ensures.1) c.if-are_all.true

pub returns-else-are_all : goal.returns-else-are_all
returns-else-are_all c =
    let own = own_check c.args.src.now c.args.lengths.now in
    let all : c.loop-c.c ≡ length c.args.lengths.now = omega (arith, c.loop-c.auto.c-end) in
    let sound = subst (Checked own c.loop-c.counts) all c.loop-c.invariant in
    let few : length c.args.lengths.now ≤ 8 = omega arith in
    let refused = c.refusal.ensures ∙ ap refused_copy c.into.ensures in (
      refused ∙ checked_not sound c.requires.1 few refl _ (test_told sound c.requires.1 few refl _ c.are_all.ensures.0 c.are_all.ensures.1)
          c.if-are_all.false,
      omega (arith, ap (λ (x : Copied). x.reply) refused),
    )
