-- Change No. 5 (02): how many rounds the sharing takes. "Report the number of rounds of the contest. It must be the number in 01's definition, equal to the sum of
-- all final rates plus the number of competing bands that end below rate 9, and at most an eighth of the budget, rounded down, plus 44. A refused call reports 0."
-- Told on the answer of the call `allot`, for all that 01 lets it take. The words: `begin` is the start of the contest, `contest n` what n rounds make of it, or
-- fewer where none competes any more, `ahead` the band whose turn it is (contest/specs/Rounds); the others as on the page Demand3.
-- Assumes nothing.
use Rattle.std.specs.Prelude.{◌≡◌, Bool, true, false, cond, ◌&&◌, List, ◌++◌, ℕ, ◌+◌, ◌/◌, ◌≤◌, ◌<◌, ltb, replicate}
use Rattle.ground.specs.Replies.{done}
use Rattle.ground.specs.Sums.{nth, sum_to}
use Rattle.weights.specs.Weights.{nth_z, scores_of}
use Rattle.contest.specs.Bands.{length_of, competing}
use Rattle.contest.specs.Rounds.{Game, at, ahead, contest, begin, rates}
use Rattle.allotment.specs.Allotment.{rounds_of}
use Rattle.promises.specs.Calls as call

module _ (transient wide : Bool) (norms : List ℕ) (budget : ℕ) where
  -- the number that is reported, and the rate that a band ends with
  abbrev pub rounds : ℕ
  rounds = (call.allot transient wide norms budget).rounds

  abbrev pub rate : ℕ → ℕ
  rate band = nth (call.allot transient wide norms budget).rates band

  -- 01's contest after so many rounds
  abbrev pub after : ℕ → Game
  after n = contest n (begin length_of (nth_z (scores_of transient norms)) (competing wide) budget)

  pub record RoundsTaken : Type 0 where
    pub answered : (call.allot transient wide norms budget).reply ≡ done
    -- "the number in 01's definition": its count, by the recursion of the contest itself (`counted`, beside `contest`) …
    pub of_the_contest : rounds ≡ rounds_of transient wide norms budget
    -- … which is to say: before each of so many rounds a band competes, and after them none does
    pub one_before_each : (n : ℕ) → n < rounds → (ahead (after n)).competes ≡ true
    pub none_after : (band : ℕ) → band < 44 → (at (after rounds).bands band).competes ≡ false
    -- it is the contest that gave the rates and the bits left
    pub rates_after : rates (after rounds) ≡ (call.allot transient wide norms budget).rates
    pub left_after : (after rounds).left ≡ (call.allot transient wide norms budget).left
    -- "equal to the sum of all final rates plus the number of competing bands that end below rate 9"
    pub by_rates : rounds ≡ sum_to rate 44 + sum_to (λ band. cond (competing wide band && ltb (rate band) 9) 1 0) 44
    -- "at most an eighth of the budget, rounded down, plus 44"
    pub at_most : rounds ≤ budget / 8 + 44
    -- that bound is not reached by a budget over 1,031, and no budget takes more than 257 rounds
    pub less_from_1032 : 1031 < budget → rounds < budget / 8 + 44
    pub at_most_257 : rounds ≤ 257

pub record Rounds : Type 0 where
  pub taken : (transient wide : Bool) (norms : List ℕ) (budget : ℕ) → ((band : ℕ) → band < 44 → nth norms band ≤ 39) → budget ≤ 2560
      → RoundsTaken transient wide norms budget
  -- "A refused call reports 0"
  pub refused : (transient wide : Bool) (norms : List ℕ) (budget : ℕ) → ((call.allot transient wide norms budget).reply ≡ done → ⊥)
      → (call.allot transient wide norms budget).rounds ≡ 0
  -- both bounds are reached: an eighth of 1,031, rounded down, plus 44, where the sixteen bands of 8 bits are loud; and 257, where those of 8 and 16
  -- bits are loud and come to rate 8 or more, and what they leave goes to bands of 24
  pub bound_reached : (call.allot false true (replicate 16 0 ++ replicate 28 39) 1031).rounds ≡ 1031 / 8 + 44
  pub most_reached : (call.allot false true (replicate 24 0 ++ replicate 12 14 ++ replicate 8 39) 2560).rounds ≡ 257
