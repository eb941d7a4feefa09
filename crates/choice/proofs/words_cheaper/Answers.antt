-- `choice::words_cheaper` meets its contract: both costs of the places passed. Assumes nothing.
use native.Mathlib.Omega.{arith}
use borrow.Author.Rules.{rules}
use Rattle.std.proofs.lemmas.Slice.Zip.{zip_turn, zip_end}
use Rattle.choice.proofs.Laws.Choice.{cost_start, cost_turn, cost_end}
use Rattle.choice.proofs.words_cheaper.Goals as goal

pub loop-kind-init : goal.loop-kind-init
loop-kind-init c =
    cost_start

pub loop-kind-preserved : goal.loop-kind-preserved
loop-kind-preserved c =
    let t =
    zip_turn c.args.kinds.now c.args.numbers.now c.loop-kind.yielded _ _ c.next.new.self _ (search rules) (search rules) c.loop-kind.yielded_by (c.in-Some.kind, c.in-Some.v) c.in-Some.is
    c.next.ensures.steps in
    cost_turn c.loop-kind.yielded _ c.loop-kind.invariant t.0 (t.2 0) (t.3 0) c.as_word-words.ensures c.as_fixed-fixed.ensures

pub returns : goal.returns
returns c =
    let e =
    zip_end c.args.kinds.now c.args.numbers.now c.loop-kind.yielded _ _ c.next.new.self _ (search rules) (search rules) c.loop-kind.yielded_by c.in-None.is c.next.ensures.steps in
    cost_end c.loop-kind.invariant (omega (arith, e, c.requires.0))
