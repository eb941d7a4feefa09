-- The rule of the first index and the two passes, place by place: none raises an index, and what obeys a rule and is nowhere above a list is nowhere above
-- what the rule makes of it.
-- Assumes nothing.
use mathlib.Core.Path.{◌≡◌, sym, ap, ◌∙◌, subst}
use mathlib.Core.List.{List}
use Prim.Native.Nat.{ℕ, zero, suc, ◌+◌, ◌-◌, ◌≤◌, ◌<◌}
use native.Mathlib.Omega.{arith}
use native.Mathlib.Decide.{ℕ_discrete}
use lib.ListN.{length, get_or, length-set}
use lib.Seq.{get_or-set_same, get_or-set_other}
use Rattle.ground.proofs.Laws.ListsByRule.{length_from, get_d_table}
use Rattle.legal.specs.Legal.{as_first, by_successor, by_predecessor, capped, fallen, risen, lowered, held, NowhereAbove}

-- from the last place to the first
pub from_last : (P : ℕ → Type 0) → P 43 → ((i : ℕ) → i < 43 → P (suc i) → P i) → (i : ℕ) → i < 44 → P i
from_last P last next i h =
    let e : 43 - (43 - i) ≡ i = omega arith in
    subst P e (down (43 - i) (omega arith))
  where
    down : (k : ℕ) → k < 44 → P (43 - k)
    down zero l = last
    down (suc k) l =
        let e : 43 - k ≡ suc (43 - suc k) = omega arith in
        next (43 - suc k) (omega arith) (subst P e (down k (omega arith)))

module _ (ss : List ℕ) where
  -- ---- the first index

  pub capped_first : 0 < length ss → get_or (capped ss) 0 0 ≡ as_first (get_or ss 0 0)
  unfolding capped
  capped_first h = get_or-set_same ss 0 (as_first (get_or ss 0 0)) 0 h

  pub capped_rest : (i : ℕ) → get_or (capped ss) (suc i) 0 ≡ get_or ss (suc i) 0
  unfolding capped
  capped_rest i = get_or-set_other ss 0 (suc i) (as_first (get_or ss 0 0)) 0 (λ e. omega arith)

  pub capped_le : 0 < length ss → NowhereAbove (capped ss) ss
  capped_le l zero h = omega (arith, capped_first l)
  capped_le l (suc i) h = omega (arith, capped_rest i)

  pub length_capped : length (capped ss) ≡ length ss
  unfolding capped
  length_capped = length-set ss 0 (as_first (get_or ss 0 0))

  -- ---- last pair to first: the last stays, and the others go by their successors

  lowered_at : (i : ℕ) → i < 44 → get_or (lowered ss) i 0 ≡ fallen ss (43 - i)
  lowered_at i h = get_d_table (λ (i : ℕ). fallen ss (43 - i)) 44 0 i h

  pub lowered_last : get_or (lowered ss) 43 0 ≡ get_or ss 43 0
  unfolding fallen
  lowered_last = lowered_at 43 (omega arith)

  pub lowered_step : (i : ℕ) → i < 43 → get_or (lowered ss) i 0 ≡ by_successor (get_or ss i 0) (get_or (lowered ss) (suc i) 0)
  unfolding fallen
  lowered_step i h =
      let e : 43 - i ≡ suc (42 - i) = omega arith in
      let f : 43 - suc (42 - i) ≡ i = omega arith in
      let g : 42 - i ≡ 43 - suc i = omega arith in
      lowered_at i (omega arith) ∙ ap (fallen ss) e ∙ ap (λ (k : ℕ). by_successor (get_or ss k 0) (fallen ss (42 - i))) f
      ∙ ap (λ (k : ℕ). by_successor (get_or ss i 0) (fallen ss k)) g ∙ ap (by_successor (get_or ss i 0)) (sym (lowered_at (suc i) (omega arith)))

  pub lowered_le : NowhereAbove (lowered ss) ss
  lowered_le i h =
      elim (ℕ_discrete i 43) [
        | yes e ↦ rw e (omega (arith, lowered_last))
        | no e ↦ omega (arith, lowered_step i (omega (arith, e)))
      ]

  pub length_lowered : length (lowered ss) ≡ 44
  length_lowered = length_from (λ (i : ℕ). fallen ss (43 - i)) 44 0

  -- ---- first to last: the first stays, and the others go by their predecessors

  held_at : (i : ℕ) → i < 44 → get_or (held ss) i 0 ≡ risen ss i
  held_at i h = get_d_table (risen ss) 44 0 i h

  pub held_first : get_or (held ss) 0 0 ≡ get_or ss 0 0
  unfolding risen
  held_first = held_at 0 (omega arith)

  pub held_step : (i : ℕ) → i < 43 → get_or (held ss) (suc i) 0 ≡ by_predecessor (get_or ss (suc i) 0) (get_or (held ss) i 0)
  unfolding risen
  held_step i h = held_at (suc i) (omega arith) ∙ ap (by_predecessor (get_or ss (suc i) 0)) (sym (held_at i (omega arith)))

  pub held_le : NowhereAbove (held ss) ss
  held_le zero h = omega (arith, held_first)
  held_le (suc i) h = omega (arith, held_step i (omega arith))

  pub length_held : length (held ss) ≡ 44
  length_held = length_from (risen ss) 44 0

-- ---- what obeys a rule stays under

module _ (ss ts : List ℕ) (under : NowhereAbove ts ss) where
  pub under_capped : 0 < length ss → get_or ts 0 0 ≤ 31 → NowhereAbove ts (capped ss)
  under_capped l first zero h = omega (arith, under 0 h, capped_first ss l)
  under_capped l first (suc i) h = omega (arith, under (suc i) h, capped_rest ss i)

  pub under_lowered : ((i : ℕ) → i < 43 → get_or ts i 0 ≤ get_or ts (suc i) 0 + 15) → NowhereAbove ts (lowered ss)
  under_lowered down =
      from_last (λ (i : ℕ). get_or ts i 0 ≤ get_or (lowered ss) i 0) (omega (arith, under 43 (omega arith), lowered_last ss))
      (λ i h next. omega (arith, under i (omega arith), down i h, lowered_step ss i h))

  pub under_held : ((i : ℕ) → i < 43 → get_or ts (suc i) 0 ≤ get_or ts i 0 + 16) → NowhereAbove ts (held ss)
  under_held up zero h = omega (arith, under 0 h, held_first ss)
  under_held up (suc i) h = omega (arith, under (suc i) h, up i (omega arith), held_step ss i (omega arith), under_held up i (omega arith))
