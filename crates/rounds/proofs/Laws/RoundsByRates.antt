-- The rounds of the contest, added up band by band from the rates.
-- Assumes nothing.
use mathlib.Core.Path.{◌≡◌, sym, ◌∙◌}
use mathlib.Core.Bool.{Bool, cond, ◌&&◌}
use mathlib.Core.List.{List}
use Prim.Native.Nat.{ℕ, ◌+◌, ◌≤◌}
use lib.Dec.{ltb}
use Rattle.ground.specs.Sums.{nth, sum_to}
use Rattle.ground.proofs.Laws.FillingLoops.{Reaching, reaching_done}
use Rattle.ground.proofs.Laws.Sums.{sum_nil, sum_next, sum_both}
use Rattle.contest.specs.Bands.{competing}
use Rattle.contest.specs.Rounds.{rounds_by_rates}

-- ---- the loop over the bands
pub own_rounds : Bool → List ℕ → ℕ → ℕ
own_rounds wide rates p = nth rates p + cond (competing wide p && ltb (nth rates p) 9) 1 0

module _ (wide : Bool) (rates : List ℕ) where
  pub own_none : 0 ≡ sum_to (own_rounds wide rates) 0
  own_none = sym (sum_nil (own_rounds wide rates))

  pub own_next : {sum x i : ℕ} {c : Bool} → Reaching 44 (sum_to (own_rounds wide rates)) sum i → c ≡ competing wide i
      → x ≡ nth rates i + cond (c && ltb (nth rates i) 9) 1 0 → sum + x ≡ sum_to (own_rounds wide rates) (i + 1)
  unfolding own_rounds
  own_next {i = i} r e ex = sum_next (own_rounds wide rates) i r.at (rw e at ex)

  pub own_all : {sum i : ℕ} → Reaching 44 (sum_to (own_rounds wide rates)) sum i → 44 ≤ i → sum ≡ rounds_by_rates (competing wide) (nth rates)
  unfolding own_rounds rounds_by_rates
  own_all r h = reaching_done r h ∙ sym (sum_both (nth rates) (λ p. cond (competing wide p && ltb (nth rates p) 9) 1 0) 44)
