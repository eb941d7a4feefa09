-- `points::in_range` meets its contract: the chain passes exactly where each index is below r. Assumes nothing.
use Rattle.std.proofs.Common.{rules, ◌≡◌, ℕ, ◌<◌, true, get_or, length}
use Rattle.points.proofs.Laws.Points.{below_told}
use Rattle.points.proofs.in_range.Goals as goal

pub returns : goal.returns
returns c =
    let k = c.args.k.now in
    let r = c.args.r in
    let each : c.all.result ≡ true → (i : ℕ) → i < length k → get_or k i 0 < r = search rules in
    let all : ((i : ℕ) → i < length k → get_or k i 0 < r) → c.all.result ≡ true = search rules in
    below_told _ r k c.told-k (each, all)
