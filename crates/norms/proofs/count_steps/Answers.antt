-- `norms::count_steps` meets its contract: three bits for each step, what its size adds, and less for those without a word. Assumes nothing.
use Rattle.std.proofs.Common.{◌≡◌, ◌+◌, ◌++◌, [], ◌∷◌, length, length-append}
use Rattle.norms.proofs.Laws.StepBits.{count_start, count_turn, count_fits, counted, pairs_next, pairs_on, pairs_end, pair_first, pair_second}
use borrow.Author.Rules.{rules}
use Rattle.norms.proofs.count_steps.Goals as goal

pub loop-pair-init : goal.loop-pair-init
loop-pair-init c =
    (record { two = (cc); left = (cc) }, search (rules, count_start))

pub loop-pair-preserved : goal.loop-pair-preserved
loop-pair-preserved c =
    let P = c.loop-pair.invariant.0 in
    let steps = c.in-Some.ensures.steps in
    let e : length (c.loop-pair.yielded ++ (c.in-Some.pair ∷ [])) ≡ length c.loop-pair.yielded + 1 = simp length-append in
    rw e (
      pairs_next P steps.0 steps.1.2,
      count_turn c.loop-pair.invariant.1 (search rules) (pairs_on P (search rules) steps.1.0) (pair_first P steps.1.1) (pair_second P steps.1.1)
          c.step_size-size.ensures c.max-far.ensures c.more_bits-more.ensures c.beyond-lost.ensures,
    )

pub overflow_sub-result : goal.overflow_sub-result
overflow_sub-result c =
    let end = pairs_end c.loop-pair.invariant.0 (search rules) c.in-None.ensures.steps.1.0 in
    count_fits c.loop-pair.invariant.1 (search rules) end (search) (search)

pub returns : goal.returns
returns c =
    let end = pairs_end c.loop-pair.invariant.0 (search rules) c.in-None.ensures.steps.1.0 in
    counted c.loop-pair.invariant.1 (search rules) end (search) (search)
