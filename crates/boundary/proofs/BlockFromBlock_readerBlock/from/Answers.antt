-- A block that was read, as C has it, meets its contract: each reading is one that C has. Assumes nothing.
use Rattle.std.proofs.Common.{rules, arith, ap, List, length, ◌≡◌}
use Rattle.boundary.specs.Flags.{reading_out, block_out}
use Rattle.boundary.specs.declared.Reading.{Reading}
use Rattle.boundary.specs.declared.Block.{Block}
use Rattle.boundary.proofs.Laws.Arrays.{mapped}
use Rattle.boundary.proofs.BlockFromBlock_readerBlock.from.Goals as goal

pub returns : goal.returns
unfolding block_out
returns c =
    let long : length c.args.b.frames ≡ 8 = search rules in
    let made : length c.each.result ≡ 8 = search rules in
    ap (λ (x : List Reading). let b : Block = record { reply = c.args.b.reply; next = c.args.b.next; frames = x } in b)
    (mapped reading_out c.args.b.frames _ (omega (arith, long, made)) (λ i d e l. let p = c.each.ensures i d e (omega (arith, l, long)) in search rules))
