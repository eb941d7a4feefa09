-- Demand 3 on the answer of the call: where it answers 0, its rates and its bits left are the contest's, which shares fairly; and the scores at which
-- the contest's rounds granted its rates.
-- Assumes nothing.
use mathlib.Core.Path.{◌≡◌, sym, ap, subst, ◌∙◌}
use mathlib.Core.Bool.{Bool}
use mathlib.Core.List.{List}
use Prim.Native.Nat.{ℕ, ◌*◌, ◌≤◌, ◌<◌}
use lib.IntN.{ℤ, pos, ◌-ℤ◌}
use Rattle.ground.specs.ListsByRule.{table}
use Rattle.ground.specs.Sums.{nth, sum_to}
use Rattle.weights.specs.Weights.{nth_z, scores_of}
use Rattle.ground.proofs.Laws.Indices.{range_yes}
use Rattle.contest.specs.Bands.{length_of, competing}
use Rattle.contest.specs.Fairness.{Fair, steps_below}
use Rattle.contest.specs.Grants.{scores_to, cost_below}
use Rattle.contest.proofs.Laws.Grants.{steps, cost_counted}
use Rattle.allotment.specs.declared.Shares.{Shares}
use Rattle.allotment.specs.Allotment.{end_of, grants_of, rates_of, shares_of}
use Rattle.allotment.specs.Demand3.{Demand3}
use Rattle.allotment.proofs.Laws.Rates.{shares_yes, fair}

pub demand3 : Demand3
demand3 transient wide norms budget low h =
    let e = shares_yes transient wide norms budget (range_yes norms 44 low) h in (
      ap (λ (s : Shares). s.reply) (sym e),
      subst (λ (s : Shares). Fair length_of (nth_z (scores_of transient norms)) (competing wide) budget (nth s.rates) s.left) e
          (fair transient norms low wide budget),
    )

module _ (transient wide : Bool) (norms : List ℕ) (budget : ℕ) (low : (p : ℕ) → p < 44 → nth norms p ≤ 39) (h : budget ≤ 2560) where
  answered : rates_of transient wide norms budget ≡ (shares_of transient wide norms budget).rates
  answered = ap (λ (s : Shares). s.rates) (shares_yes transient wide norms budget (range_yes norms 44 low) h)

  -- step t of a band, from 0, is granted at its starting score − 32 t
  pub steps_fall : (p : ℕ) → p < 44
      → scores_to p (grants_of transient wide norms budget)
      ≡ table (nth (shares_of transient wide norms budget).rates p) (λ t. nth_z (scores_of transient norms) p -ℤ pos (32 * t))
  unfolding grants_of rates_of end_of
  steps_fall p b =
      steps length_of (nth_z (scores_of transient norms)) (competing wide) budget p b
      ∙ ap (λ (l : List ℕ). table (nth l p) (λ t. nth_z (scores_of transient norms) p -ℤ pos (32 * t))) answered

  -- what the rounds granted below a score costs what the rates say
  pub cost_fair : (s : ℤ)
      → cost_below length_of s (grants_of transient wide norms budget)
      ≡ sum_to (λ j. length_of j * steps_below s (nth_z (scores_of transient norms) j) (nth (shares_of transient wide norms budget).rates j)) 44
  unfolding grants_of rates_of end_of
  cost_fair s =
      cost_counted length_of (nth_z (scores_of transient norms)) (competing wide) budget s
      ∙ ap (λ (l : List ℕ). sum_to (λ j. length_of j * steps_below s (nth_z (scores_of transient norms) j) (nth l j)) 44) answered
