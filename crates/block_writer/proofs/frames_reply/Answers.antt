-- `block_writer::frames_reply` meets its contract: each turn tries one frame, and a cause stays. Assumes nothing.
use Prim.Native.Nat.{ℕ, ◌+◌}
use borrow.Author.Rules.{rules}
use lib.ListN.{length, take}
use lib.Seq.{length-take-le}
use mathlib.Core.List.{List}
use mathlib.Core.Path.{◌≡◌, ◌∙◌, refl, sym, ap}
use native.Mathlib.Omega.{arith}
use Rattle.std.proofs.lemmas.Result.{err_from_is_err_and}
use Rattle.std.specs.Prelude.{Option}
use Rattle.ground.specs.Refusals.{first}
use Rattle.ground.specs.Runs.{runs, part}
use Rattle.ground.proofs.Laws.Refusals.{runs_none, runs_next, runs_stay}
use Rattle.frame.specs.declared.Record.{Record}
use Rattle.ground.proofs.Laws.Numbered.{never_zero}
use Rattle.block_writer.specs.Writing.{given_at, causes_at, frame_causes}
use Rattle.block_writer.specs.declared.Records.{Records}
use Rattle.block_writer.proofs.Laws.Writing.{turn, numbered_at}
use Rattle.block_writer.proofs.frames_reply.Goals as goal

-- frame k's number decides whether the first k + 1 frames pass
decides : (r : Records) (cs ts : List ℕ) (k : ℕ) {x : ℕ} {g : Option Record} {numbers bytes : List ℕ} → first (runs k (causes_at r cs ts)) ≡ 0
    → g ≡ given_at r k → (numbers ≡ part 800 cs k) × (bytes ≡ part 320 ts k) → x ≡ first (frame_causes g numbers bytes)
    → x ≡ first (runs (k + 1) (causes_at r cs ts))
decides r cs ts k {x} {g} {numbers} {bytes} passed eg own e =
    let q : first (frame_causes g numbers bytes) ≡ first (causes_at r cs ts k) = rw (eg, own.0, own.1) refl in
    e ∙ q ∙ runs_next (causes_at r cs ts) (numbered_at r cs ts) k passed

pub loop-c-init : goal.loop-c-init
loop-c-init c =
    runs_none _ 0 (λ c b. absurd (omega arith))

pub own-requires : goal.own-requires
own-requires c =
    let eight : length c.args.records.at ≡ 8 = search rules in
    let t = turn c.args.records c.args.channels c.loop-c.c eight c.requires.0 c.loop-c-test.true in
    (omega (arith, t), omega (arith, t), omega (arith, t))

pub returns-in_err-frame_reply : goal.returns-in_err-frame_reply
returns-in_err-frame_reply c =
    let eight : length c.args.records.at ≡ 8 = search rules in
    let t = turn c.args.records c.args.channels c.loop-c.c eight c.requires.0 c.loop-c-test.true in
    let decided = decides c.args.records c.args.codes.now c.args.tails.now c.loop-c.c c.loop-c.invariant t.1 c.own.ensures c.in_err-frame_reply.ensures in
    let f = causes_at c.args.records c.args.codes.now c.args.tails.now in
    let p = err_from_is_err_and c.from_residual.result c.from_residual.ensures.1 in
    rw (p.1, p.2) (decided ∙ sym (runs_stay f (c.loop-c.c + 1) c.args.channels (λ z. never_zero _ (decided ∙ z)) (omega (arith, t))))

pub loop-c-preserved : goal.loop-c-preserved
loop-c-preserved c =
    let eight : length c.args.records.at ≡ 8 = search rules in
    let t = turn c.args.records c.args.channels c.loop-c.c eight c.requires.0 c.loop-c-test.true in
    sym (decides c.args.records c.args.codes.now c.args.tails.now c.loop-c.c c.loop-c.invariant t.1 c.own.ensures c.in_ok-frame_reply.ensures)

pub returns : goal.returns
returns c =
    let eight : length c.args.records.at ≡ 8 = search rules in
    let long : length (take c.args.channels c.args.records.at) ≡ c.args.channels = length-take-le c.args.channels c.args.records.at (omega arith) in
    let e : c.loop-c.c ≡ c.args.channels = omega (arith, long, c.loop-c.auto.c-end) in
    sym c.loop-c.invariant ∙ ap (λ (k : ℕ). first (runs k (causes_at c.args.records c.args.codes.now c.args.tails.now))) e
