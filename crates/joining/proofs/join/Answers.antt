-- `joining::join` meets its contract, in 02's order: each refusal leaves the output, and 0 lays the blocks at its front. Assumes nothing.
use Prim.Native.Nat.{ℕ, ◌≤◌}
use mathlib.Core.List.{List}
use lib.ListN.{length}
use mathlib.Core.Bool.{true}
use mathlib.Core.Path.{◌≡◌, refl, ap, sym, ◌∙◌}
use native.Mathlib.Omega.{arith}
use Rattle.recording.specs.Blocks.{is_count}
use Rattle.recording.proofs.Laws.Blocks.{counted}
use Rattle.joining.specs.Joining.{InSource, start_of}
use Rattle.joining.proofs.Laws.Joining.{join_uncounted, join_past, join_stopped, join_kept, same_reply, found_few, found_long, found_short, found_joined}
use Rattle.joining.proofs.Laws.Joining.{total_is, found_after}
use Rattle.channels.specs.Copies.{refused_copy}
use Rattle.joining.proofs.join.Goals as goal

-- the recordings lie in the source
lies : (src lengths : List ℕ) {total : ℕ} → is_count (length lengths) ≡ true → total ≡ start_of lengths (length lengths) → total ≤ length src
    → InSource src lengths
lies src lengths few e h = record { few = (counted _ few).1; inside = omega (arith, e) }

pub returns-then-not-is_count : goal.returns-then-not-is_count
returns-then-not-is_count c =
    let e = join_uncounted c.args.src.now c.args.lengths.now c.args.out.now (sym c.is_count.ensures ∙ c.if-not-is_count.true) in
    (c.refusal.ensures ∙ ap refused_copy c.into.ensures ∙ sym e, join_kept c.args.src.now c.args.lengths.now c.args.out.now _ e (λ z. omega arith))

pub total-total-requires : goal.total-total-requires
total-total-requires c =
    let few = sym c.is_count.ensures ∙ c.if-not-is_count.false in
    (counted _ few).1

pub returns-then-src-total : goal.returns-then-src-total
returns-then-src-total c =
    let few = sym c.is_count.ensures ∙ c.if-not-is_count.false in
    let q = join_past c.args.src.now c.args.lengths.now c.args.out.now few (omega (arith, (c.total-total.ensures ∙ total_is c.args.lengths.now))) in
    (c.refusal-then-src-total.ensures ∙ ap refused_copy c.into-then-src-total.ensures ∙ sym q, join_kept c.args.src.now c.args.lengths.now c.args.out.now _ q (λ z. omega arith))

pub check_all-requires : goal.check_all-requires
check_all-requires c =
    let few = sym c.is_count.ensures ∙ c.if-not-is_count.false in
    let lying = lies c.args.src.now _ few (c.total-total.ensures ∙ total_is c.args.lengths.now) (omega arith) in
    (lying, (counted _ few).0)

pub returns-in-Err : goal.returns-in-Err
returns-in-Err c =
    let few = sym c.is_count.ensures ∙ c.if-not-is_count.false in
    let lying = lies c.args.src.now _ few (c.total-total.ensures ∙ total_is c.args.lengths.now) (omega arith) in
    let q = join_stopped c.args.src.now c.args.lengths.now c.args.out.now few lying.inside (λ z. omega (arith, c.in-Err.ensures.1, same_reply c.in-Err.ensures.0)) in
    (c.in-Err.ensures.0 ∙ sym q, join_kept c.args.src.now c.args.lengths.now c.args.out.now _ q (λ z. omega (arith, c.in-Err.ensures.1, same_reply c.in-Err.ensures.0)))

pub returns-then-out-total : goal.returns-then-out-total
returns-then-out-total c =
    let few = sym c.is_count.ensures ∙ c.if-not-is_count.false in
    let lying = lies c.args.src.now _ few (c.total-total.ensures ∙ total_is c.args.lengths.now) (omega arith) in
    let q = found_short few lying c.in-Ok.ensures refl c.args.out.now (omega (arith, (c.total-total.ensures ∙ total_is c.args.lengths.now))) in
    (c.refusal-then-out-total.ensures ∙ ap refused_copy c.into-then-out-total.ensures ∙ sym q, join_kept c.args.src.now c.args.lengths.now c.args.out.now _ q (λ z. omega arith))

pub join_blocks-requires : goal.join_blocks-requires
join_blocks-requires c =
    let few = sym c.is_count.ensures ∙ c.if-not-is_count.false in
    let lying = lies c.args.src.now _ few (c.total-total.ensures ∙ total_is c.args.lengths.now) (omega arith) in (
      lying,
      found_few few lying c.in-Ok.ensures refl,
      omega (arith, (c.total-total.ensures ∙ total_is c.args.lengths.now), found_long few lying c.in-Ok.ensures refl),
    )

pub returns : goal.returns
returns c =
    let few = sym c.is_count.ensures ∙ c.if-not-is_count.false in
    let lying = lies c.args.src.now _ few (c.total-total.ensures ∙ total_is c.args.lengths.now) (omega arith) in (
      sym (found_joined few lying c.in-Ok.ensures refl c.args.out.now (c.total-total.ensures ∙ total_is c.args.lengths.now) (omega arith)),
      found_after few lying c.in-Ok.ensures refl c.args.out.now (c.total-total.ensures ∙ total_is c.args.lengths.now) (omega arith)
          c.join_blocks.ensures,
    )
