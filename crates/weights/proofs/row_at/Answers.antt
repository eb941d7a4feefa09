-- (24): a part of 180 for each of H_b bands, and 720 T_b. Assumes nothing.
use Rattle.std.proofs.Common.{arith, ◌≤◌, ◌*◌}
use Rattle.weights.proofs.Laws.Stages.{row_inside, part_fits, row_fits, row_made}
use Rattle.weights.proofs.row_at.Goals as goal

pub overflow_add-row : goal.overflow_add-row
overflow_add-row c =
    omega (arith, row_inside _ c.requires c.at-row.ensures)

pub slice_bounds-sum_of-end : goal.slice_bounds-sum_of-end
slice_bounds-sum_of-end c =
    search (row_inside, c.requires)

pub overflow_mul-result : goal.overflow_mul-result
overflow_mul-result c =
    let low : c.sum_of.result ≤ 255 * c.at-row.result.height = search (arith, c.sum_of.ensures.low) in
    omega (arith, part_fits _ c.requires c.at-row.ensures low)

pub overflow_add-result : goal.overflow_add-result
overflow_add-result c =
    let low : c.sum_of.result ≤ 255 * c.at-row.result.height = search (arith, c.sum_of.ensures.low) in
    omega (arith, row_fits _ c.requires c.at-row.ensures low)

pub returns : goal.returns
returns c =
    row_made _ c.requires c.at-row.ensures _ c.told-qs c.sum_of.ensures.all
