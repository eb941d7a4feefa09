-- `tails::fill_tail` meets its contract: each byte from its place. Assumes nothing.
use Rattle.std.proofs.Common.{arith, ap, List, ℕ, ◌++◌, drop, length-take}
use Rattle.tails.proofs.Laws.Tails.{fill_start, fill_turn, fill_front}
use Rattle.tails.proofs.fill_tail.Goals as goal

pub loop-i-init : goal.loop-i-init
loop-i-init c =
    fill_start

pub loop-i-preserved : goal.loop-i-preserved
loop-i-preserved c =
    let room = length-take 320 c.args.tail.now in
    fill_turn c.loop-i.invariant (omega (arith, room)) (omega (arith, room)) c.tail_byte.ensures

pub returns : goal.returns
returns c =
    let room = length-take 320 c.args.tail.now in
    ap (λ (l : List ℕ). l ++ drop 320 c.args.tail.now) (fill_front c.loop-i.invariant (omega (arith, room)) (omega (arith, room)))
