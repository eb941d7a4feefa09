-- `ground::indices::in_range` meets its contract: the chain passes exactly where each index is at most 39. Assumes nothing.
use Rattle.std.proofs.Common.{rules, ◌≡◌, ℕ, ◌<◌, ◌≤◌, true, get_or, length}
use Rattle.ground.proofs.Laws.Indices.{range_told}
use Rattle.ground.proofs.indices.in_range.Goals as goal

pub returns : goal.returns
returns c =
    let norms = c.args.norms.now in
    let each : c.all.result ≡ true → (k : ℕ) → k < length norms → get_or norms k 0 ≤ 39 = search rules in
    let all : ((k : ℕ) → k < length norms → get_or norms k 0 ≤ 39) → c.all.result ≡ true = search rules in
    range_told _ norms c.told-norms each all
