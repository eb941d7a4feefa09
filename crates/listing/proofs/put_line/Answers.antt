-- `listing::put_line` meets its contract: its parts one after the other. Assumes nothing.
use native.Mathlib.Omega.{arith}
use Rattle.listing.specs.Text.{frame_line}
use Rattle.ground.proofs.Laws.Laying.{laid_long, then}
use Rattle.decimals.proofs.Laws.Digits.{length_digits}
use Rattle.listing.proofs.Laws.Lengths.{length_line, same_digits}
use Rattle.listing.proofs.put_line.Goals as goal

pub put_digits-a-requires : goal.put_digits-a-requires
put_digits-a-requires c =
    omega (arith, length_line c.args.frame c.args.reply c.args.bytes)

pub put_number-b-requires : goal.put_number-b-requires
put_number-b-requires c =
    omega (arith, length_line c.args.frame c.args.reply c.args.bytes, laid_long, length_digits 4 c.args.frame, same_digits c.from.ensures)

pub put_number-c-requires : goal.put_number-c-requires
put_number-c-requires c =
    omega (
      arith,
      length_line c.args.frame c.args.reply c.args.bytes,
      laid_long,
      length_digits 4 c.args.frame,
      same_digits c.from.ensures,
    )

pub put-requires : goal.put-requires
put-requires c =
    omega (arith, length_line c.args.frame c.args.reply c.args.bytes, laid_long, length_digits 4 c.args.frame, same_digits c.from.ensures)

pub returns : goal.returns
unfolding frame_line
returns c =
    rw (← c.from.ensures)
    (then c.put_digits-a.ensures (then c.put_number-b.ensures (then c.put_number-c.ensures c.put.ensures)))
