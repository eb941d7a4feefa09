-- The number of rounds on the answer of the call (02, No. 5): where it answers 0, it is the contest's.
-- Assumes nothing.
use mathlib.Core.Path.{◌≡◌, sym, ap, ◌∙◌, subst}
use mathlib.Core.Bool.{Bool, true, false}
use mathlib.Core.List.{List}
use Prim.Native.Nat.{ℕ, ◌+◌, ◌-◌, ◌*◌, ◌≤◌, ◌<◌}
use lib.IntN.{ℤ}
use Rattle.ground.specs.Replies.{done}
use Rattle.ground.specs.Sums.{nth, sum_to}
use Rattle.ground.proofs.Laws.Indices.{range_yes}
use Rattle.weights.specs.Weights.{nth_z, scores_of, weights_of}
use Rattle.contest.specs.Bands.{length_of, competing}
use Rattle.contest.specs.Rounds.{Game, at, ahead, contest, begin, rounds_by_rates, rates}
use Rattle.contest.proofs.Laws.CountedRounds as counted
use Rattle.contest.proofs.Laws.SharesFairly as fairly
use Rattle.allotment.specs.declared.Shares.{Shares}
use Rattle.allotment.specs.Allotment.{end_of, rates_of, left_of, rounds_of, shares_of}
use Rattle.allotment.proofs.Laws.Rates.{shares_yes, raised_at, heights}

module _ (transient wide : Bool) (norms : List ℕ) (budget : ℕ) (low : (p : ℕ) → p < 44 → nth norms p ≤ 39) (h : budget ≤ 2560) where
  abbrev score : ℕ → ℤ
  score = nth_z (scores_of transient norms)

  abbrev raised : ℕ → ℕ
  raised = raised_at norms (weights_of transient norms)

  abbrev start : Game
  start = begin length_of score (competing wide) budget

  abbrev answer : Shares
  answer = shares_of transient wide norms budget

  answered : ◌≡◌ {A = Shares}
      (record {
        reply = done;
        rates = rates_of transient wide norms budget;
        left = left_of transient wide norms budget;
        rounds = rounds_of transient wide norms budget;
      })
      answer
  answered = shares_yes transient wide norms budget (range_yes norms 44 low) h

  -- the definition's count
  pub rounds_counted : rounds_of transient wide norms budget ≡ answer.rounds
  rounds_counted = ap (λ (s : Shares). s.rounds) answered

  -- the rates and the bits left of the contest's end
  pub end_rates : rates (end_of transient wide norms budget) ≡ answer.rates
  unfolding rates_of
  end_rates = ap (λ (s : Shares). s.rates) answered

  pub end_left : (end_of transient wide norms budget).left ≡ answer.left
  unfolding left_of
  end_left = ap (λ (s : Shares). s.left) answered

  pub rounds_by_rates_lem : answer.rounds ≡ rounds_by_rates (competing wide) (nth answer.rates)
  unfolding rounds_of end_of
  rounds_by_rates_lem =
      sym rounds_counted ∙ counted.rounds_sum length_of score (competing wide) budget raised (heights transient norms low)
      ∙ ap (λ (l : List ℕ). rounds_by_rates (competing wide) (nth l)) end_rates

  pub rounds_most : (w : ℕ) → w * answer.rounds ≤ w * 44 + budget + sum_to (λ p. 8 * (w - length_of p)) 44
  unfolding rounds_of
  rounds_most w =
      subst (λ (n : ℕ). w * n ≤ w * 44 + budget + sum_to (λ p. 8 * (w - length_of p)) 44) rounds_counted
      (counted.rounds_most length_of score (competing wide) budget raised (heights transient norms low) w)

  -- before each of so many rounds a band competes
  pub rounds_each : (n : ℕ) → n < answer.rounds → (ahead (contest n start)).competes ≡ true
  unfolding rounds_of
  rounds_each n b = counted.rounds_each length_of score (competing wide) budget n (subst (λ (k : ℕ). n < k) (sym rounds_counted) b)

  -- so many rounds lead to the end, where none does
  pub rounds_lead : contest answer.rounds start ≡ end_of transient wide norms budget
  unfolding rounds_of end_of
  rounds_lead = ap (λ (k : ℕ). contest k start) (sym rounds_counted) ∙ counted.rounds_lead length_of score (competing wide) budget

  pub none_competes : (p : ℕ) → p < 44 → (at (end_of transient wide norms budget).bands p).competes ≡ false
  unfolding end_of
  none_competes p b = fairly.ended length_of score (competing wide) budget raised (heights transient norms low) p b
