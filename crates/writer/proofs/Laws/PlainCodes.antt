-- 01: 7 is "codes go past Ψ". Our reading: with FlagC 0 there is no 7 in writing. The codes have the bits that the allotment gave, whatever their numbers.
-- Assumes nothing.
use mathlib.Core.Path.{◌≡◌, refl, sym, subst, ◌∙◌}
use mathlib.Core.Bool.{Bool, false, not}
use mathlib.Core.List.{List, [], ◌∷◌, ◌++◌}
use Prim.Native.Nat.{ℕ, ◌-◌, ◌≤◌}
use native.Mathlib.Omega.{arith}
use lib.Dec.{T, ltb, eqb}
use lib.ListN.{length, take}
use lib.Seq.{length-take-le}
use borrow.Author.Tests.{eq-eqb, le-ltb, ltb-false}
use Rattle.ground.specs.Refusals.{Cause, ◌gives◌, first}
use Rattle.ground.proofs.Laws.Refusals.{NoneHolds, numbers, by_rows, row_fails, first_number, behind_number}
use Rattle.ground.specs.Replies.{past_budget}
use Rattle.norms.specs.Answers.{norm_causes}
use Rattle.norms.proofs.Laws.Answers.{legal_reply}
use Rattle.kinds.proofs.Laws.Kinds.{length_kinds}
use Rattle.frame.specs.Layout.{kinds_of}
use Rattle.kinds.specs.Budget.{kinds_at}
use Rattle.frame.proofs.Laws.Budgets.{budget_range}
use Rattle.frame.specs.declared.Record.{Record}
use Rattle.frame.proofs.Laws.PlainCodes.{plain_bits}
use Rattle.layout.specs.Parts.{flag_bits, total, kinds_for, budget_for, codes_long, start_causes, width_cause, code_causes, layout_causes, layout_of}
use Rattle.layout.proofs.Laws.Parts.{Started, layout_reply}
use Rattle.writer.specs.Writes.{room_causes, tail_causes, write_causes, write_reply}

-- any number but 7
not_past : ℕ → Bool
not_past n = not (eqb n past_budget)

not_past_lem : (x : ℕ) → T (not_past x) → x ≡ past_budget → ⊥
unfolding not_past
not_past_lem x t e = rw (eq-eqb x past_budget e) at t

-- codes that passed the tests before them
codes_paid : (r : Record) (cs : List ℕ) → r.flag_c ≡ false → length r.norms ≡ 44 → Started r (length cs)
    → codes_long (kinds_for r) (take 800 cs) ≤ budget_for r
unfolding kinds_of kinds_at
codes_paid r cs c l S =
    let w = legal_reply r.transient r.norms l S.norms in
    let b = (budget_range r.mode (flag_bits r) r.norms (omega (arith, S.mode)) w).1 in
    plain_bits (total r) (flag_bits r) r.norms c w (omega arith) (take 800 cs) (length-take-le 800 cs S.codes ∙ sym (length_kinds r.flag_c _))

-- with them before it, and none of them a 7, the cause of 7 does not hold
no_past : (r : Record) (cs : List ℕ) → r.flag_c ≡ false → length r.norms ≡ 44 → (a b : List Cause) → T (numbers not_past a)
    → (NoneHolds a → Started r (length cs)) → T (numbers not_past b)
    → T (not_past (first (a ++ ltb (budget_for r) (codes_long (kinds_for r) (take 800 cs)) gives past_budget ∷ b)))
unfolding not_past
no_past r cs c l a b k s m =
    behind_number not_past a _ k
    (λ n. subst (λ (x : ℕ). T (not_past x)) (row_fails _ b (le-ltb _ _ (codes_paid r cs c l (s n))) refl) (first_number not_past b tt m))

-- With FlagC 0 there is no 7 in a layout
pub plain_layout : (r : Record) (cs : List ℕ) → r.flag_c ≡ false → length r.norms ≡ 44 → (layout_of r cs).reply ≡ past_budget → ⊥
unfolding not_past layout_causes start_causes norm_causes code_causes
plain_layout r cs c l e =
    not_past_lem _
    (no_past r cs c l (start_causes r (length cs) ++ width_cause (kinds_for r) (take 800 cs) ∷ []) [] tt
    (λ n. record { mode = omega (arith, ltb-false); codes = omega (arith, ltb-false); norms = sym (search by_rows) }) tt)
    (sym (layout_reply r cs) ∙ e)

-- nor in writing, whatever the codes, the tail and the lent room
pub plain_write : (r : Record) (cs ts : List ℕ) (room : ℕ) → r.flag_c ≡ false → length r.norms ≡ 44 → write_reply r cs ts room ≡ past_budget → ⊥
unfolding not_past write_causes room_causes norm_causes code_causes tail_causes
plain_write r cs ts room c l =
    let before = room_causes r (length cs) (length ts) room ++ norm_causes r.transient r.norms ++ width_cause (kinds_for r) (take 800 cs) ∷ [] in
    not_past_lem _
    (no_past r cs c l before (tail_causes ts (budget_for r - codes_long (kinds_for r) (take 800 cs)) r.tail_bits) tt
    (λ n. record { mode = omega (arith, ltb-false); codes = omega (arith, ltb-false); norms = sym (search by_rows) }) tt)
