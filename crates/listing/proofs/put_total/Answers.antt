-- `listing::put_total` meets its contract: its parts one after the other. Assumes nothing.
use native.Mathlib.Omega.{arith}
use Rattle.listing.specs.Text.{total_line}
use Rattle.ground.proofs.Laws.Laying.{laid_long, then}
use Rattle.listing.proofs.Laws.Lengths.{length_total, same_digits}
use Rattle.listing.proofs.put_total.Goals as goal

pub put_number-a-requires : goal.put_number-a-requires
put_number-a-requires c =
    omega (arith, length_total c.args.found.count c.args.found.reply c.args.found.place)

pub put_number-b-requires : goal.put_number-b-requires
put_number-b-requires c =
    omega (arith, length_total c.args.found.count c.args.found.reply c.args.found.place, laid_long, same_digits c.from.ensures)

pub put_number-c-requires : goal.put_number-c-requires
put_number-c-requires c =
    omega (arith, length_total c.args.found.count c.args.found.reply c.args.found.place, laid_long, same_digits c.from.ensures)

pub put-requires : goal.put-requires
put-requires c =
    omega (arith, length_total c.args.found.count c.args.found.reply c.args.found.place, laid_long, same_digits c.from.ensures)

pub returns : goal.returns
unfolding total_line
returns c =
    rw (← c.from.ensures)
    (then c.put_number-a.ensures (then c.put_number-b.ensures (then c.put_number-c.ensures c.put.ensures)))
