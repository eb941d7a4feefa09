-- `channels::frame_and_next` meets its contract. Assumes nothing.
use Prim.Native.Nat.{ℕ, ◌+◌, ◌-◌}
use lib.ListN.{take, drop}
use mathlib.Core.Path.{◌≡◌, ◌∙◌, ap}
use native.Mathlib.Omega.{arith}
use Rattle.channels.proofs.Laws.Extracting.{frame_inside}
use Rattle.channels.proofs.frame_and_next.Goals as goal

pub overflow_add-end : goal.overflow_add-end
overflow_add-end c =
    omega (arith, frame_inside _ _ _ c.requires c.size_at.ensures)

pub slice_bounds-result-end : goal.slice_bounds-result-end
slice_bounds-result-end c =
    frame_inside _ _ _ c.requires c.size_at.ensures

pub returns : goal.returns
returns c =
    let at = c.args.at in
    let k = c.size_at.result in
    let long : at + k - at ≡ k = omega arith in
    (ap (λ (n : ℕ). take n (drop at c.args.src.now)) (long ∙ c.size_at.ensures), c.place_behind.ensures)
