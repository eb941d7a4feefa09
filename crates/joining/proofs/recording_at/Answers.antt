-- `joining::recording_at` meets its contract: it begins behind those in front of it, and lies in the source. Assumes nothing.
use Prim.Native.Nat.{ℕ, ◌+◌, ◌-◌, ◌≤◌, ◌<◌}
use lib.ListN.{length, take, drop, get_or}
use lib.Seq.{length-take-le}
use mathlib.Core.List.{List}
use mathlib.Core.Path.{◌≡◌, ◌∙◌, ap₂}
use native.Mathlib.Omega.{arith}
use Rattle.joining.specs.Joining.{start_of, InSource}
use Rattle.joining.proofs.Laws.Joining.{start_is, start_next, start_inside}
use Rattle.joining.proofs.recording_at.Goals as goal

-- it begins where it does, and ends inside
lies : (src lengths : List ℕ) (c : ℕ) {a : ℕ} → InSource src lengths → c < length lengths → a ≡ start_of lengths c → a + get_or lengths c 0 ≤ length src
lies src lengths c i h e = omega (arith, e, start_next src lengths c, start_inside src lengths i (c + 1) (omega arith))

pub total-start-requires : goal.total-start-requires
total-start-requires c =
    omega (arith, length-take-le c.args.c c.args.lengths.now (omega arith))

pub overflow_add-result : goal.overflow_add-result
overflow_add-result c =
    let start = c.total-start.ensures ∙ start_is c.args.lengths.now c.args.c (omega arith) in
    omega (arith, lies c.args.src.now c.args.lengths.now c.args.c c.requires.0 c.requires.1 start)

pub slice_bounds-result-end : goal.slice_bounds-result-end
slice_bounds-result-end c =
    let start = c.total-start.ensures ∙ start_is c.args.lengths.now c.args.c (omega arith) in
    omega (arith, lies c.args.src.now c.args.lengths.now c.args.c c.requires.0 c.requires.1 start)

pub returns : goal.returns
returns c =
    let start = c.total-start.ensures ∙ start_is c.args.lengths.now c.args.c (omega arith) in
    let a = c.total-start.result in
    let n = get_or c.args.lengths.now c.args.c 0 in
    let long : a + n - a ≡ n = omega arith in
    ap₂ (λ (k j : ℕ). take k (drop j c.args.src.now)) long start
