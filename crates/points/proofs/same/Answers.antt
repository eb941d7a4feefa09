-- `points::same` meets its contract: lists of eight are equal where each place is. Assumes nothing.
use Rattle.std.proofs.Common.{rules, ◌≡◌}
use Rattle.std.specs.Ordering.{int_eq}
use lib.Pointwise.{pointwise}
use Rattle.points.proofs.Laws.Points.{agree_told}
use Rattle.points.proofs.same.Goals as goal

pub returns : goal.returns
returns c =
    let v = c.args.v.now in
    let w = c.args.w.now in
    let equal : c.eq.result ≡ pointwise int_eq v w = search rules in
    agree_told c.eq.result v w c.told-v c.told-w equal
