-- How many rounds the sharing takes: the page Rounds. The bounds are one law at three lengths, 8, 16 and 24 bits.
-- Assumes nothing.
use mathlib.Core.Path.{◌≡◌, refl, sym, ap, ◌∙◌}
use mathlib.Core.Bool.{Bool, true}
use mathlib.Core.List.{List, ◌++◌}
use Prim.Native.Nat.{ℕ, ◌-◌, ◌*◌, ◌≤◌, ◌<◌}
use native.Mathlib.Omega.{arith}
use lib.ListN.{replicate}
use Rattle.ground.specs.Indices.{in_range}
use Rattle.ground.specs.Sums.{nth, sum_to}
use Rattle.contest.specs.Bands.{length_of}
use Rattle.contest.specs.Rounds.{Game, at, rates, rounds_by_rates}
use Rattle.allotment.specs.Allotment.{shares_of}
use Rattle.allotment.specs.declared.Shares.{Shares}
use Rattle.allotment.proofs.Laws.Fair.{demand3}
use Rattle.allotment.proofs.Laws.RoundsTaken as allotment
use Rattle.promises.specs.Rounds.{Rounds, RoundsTaken}
use Rattle.promises.proofs.Laws.Demand1 as demand1
use Rattle.promises.proofs.Laws.SharingExamples.{slowest}

-- what bands shorter than 8, 16 and 24 bits lack of them, eight times
lacking : (sum_to (λ p. 8 * (8 - length_of p)) 44 ≡ 0) × (sum_to (λ p. 8 * (16 - length_of p)) 44 ≡ 1024) × (sum_to (λ p. 8 * (24 - length_of p)) 44 ≡ 2560)
unfolding sum_to length_of
lacking = (refl, refl, refl)

taken : (transient wide : Bool) (norms : List ℕ) (budget : ℕ) → ((band : ℕ) → band < 44 → nth norms band ≤ 39) → budget ≤ 2560
    → RoundsTaken transient wide norms budget
unfolding rounds_by_rates
taken transient wide norms budget indices most =
    let lead = allotment.rounds_lead transient wide norms budget indices most in
    let bound = allotment.rounds_most transient wide norms budget indices most in
    record {
      answered = (demand3 transient wide norms budget indices most).0;
      of_the_contest = sym (allotment.rounds_counted transient wide norms budget indices most);
      one_before_each = allotment.rounds_each transient wide norms budget indices most;
      none_after = λ band h. ap (λ (g : Game). (at g.bands band).competes) lead ∙ allotment.none_competes transient wide norms budget indices most band h;
      rates_after = ap rates lead ∙ allotment.end_rates transient wide norms budget indices most;
      left_after = ap (λ (g : Game). g.left) lead ∙ allotment.end_left transient wide norms budget indices most;
      by_rates = allotment.rounds_by_rates_lem transient wide norms budget indices most;
      at_most = omega (arith, bound 8, lacking.0);
      less_from_1032 = λ over. omega (arith, bound 16, lacking.1);
      at_most_257 = omega (arith, bound 24, lacking.2);
    }

in_range_lem : (in_range (replicate 16 0 ++ replicate 28 39) 44 ≡ true) × (in_range (replicate 24 0 ++ replicate 12 14 ++ replicate 8 39) 44 ≡ true)
unfolding in_range
in_range_lem = (refl, refl)

pub rounds_counted : Rounds
unfolding shares_of
rounds_counted =
    record {
      taken = taken;
      refused = λ transient wide norms budget no. ap (λ (a : Shares). a.rounds) ((demand1.demand1).zeros.allot transient wide norms budget no);
      bound_reached = rw in_range_lem.0 slowest.0;
      most_reached = rw in_range_lem.1 slowest.1;
    }
