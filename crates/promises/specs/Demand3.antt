-- Demand 3. "Bits are shared fairly" (01: "In the shared-bits promise loudness is this score, and a step is granted at the score before it falls"). Told
-- on the answer of the call `allot`, for all that 01 lets it take: 44 indices from 0 to 39, both kinds of frame, bands 36 to 43 competing or not, every
-- budget to 2,560. The other words: length_of and competing, a band's length and whether it competes (contest/specs/Bands); scores_of, the starting scores
-- (weights/specs/Weights); sum_to f n, which is f 0 + … + f (n − 1).
-- Assumes nothing.
use Rattle.std.specs.Prelude.{◌≡◌, Bool, true, false, List, ℕ, ◌+◌, ◌*◌, ◌≤◌, ◌<◌, ℤ, pos, ◌-ℤ◌}
use Rattle.ground.specs.ListsByRule.{table}
use Rattle.ground.specs.Replies.{done}
use Rattle.ground.specs.Sums.{nth, sum_to}
use Rattle.weights.specs.Weights.{nth_z, scores_of}
use Rattle.contest.specs.Bands.{length_of, competing}
use Rattle.contest.specs.Fairness.{steps_below}
use Rattle.contest.specs.Grants.{scores_to, cost_below}
use Rattle.allotment.specs.Allotment.{grants_of}
use Rattle.promises.specs.Calls as call

module _ (transient wide : Bool) (norms : List ℕ) (budget : ℕ) where
  -- the rate that a band is given, and the bits that are left
  abbrev pub rate : ℕ → ℕ
  rate band = nth (call.allot transient wide norms budget).rates band

  abbrev pub left : ℕ
  left = (call.allot transient wide norms budget).left

  -- a band's score at the start, and after so many steps
  abbrev pub start : ℕ → ℤ
  start band = nth_z (scores_of transient norms) band

  abbrev pub score : ℕ → ℕ → ℤ
  score band steps = start band -ℤ pos (32 * steps)

  pub record SharedFairly : Type 0 where
    pub answered : (call.allot transient wide norms budget).reply ≡ done
    -- no rate is over nine
    pub none_over_nine : (band : ℕ) → band < 44 → rate band ≤ 9
    -- a band that does not compete gets nothing
    pub none_for_idle : (band : ℕ) → band < 44 → competing wide band ≡ false → rate band ≡ 0
    -- the bits given and the bits left are the budget: a step of a band costs its length
    pub none_lost : sum_to (λ band. rate band * length_of band) 44 + left ≡ budget
    -- nothing servable is left: a band that competes and is below nine is longer than the bits left
    pub none_servable : (band : ℕ) → band < 44 → competing wide band ≡ true → rate band < 9 → left < length_of band
    -- no band below nine could have been served by bits that went to quieter steps: all steps granted at a score below its final one cost together less
    -- than its length. steps_below s z n counts the t < n with z − 32 t below s
    pub none_to_quieter : (band : ℕ) → band < 44 → competing wide band ≡ true → rate band < 9
        → sum_to (λ other. length_of other * steps_below (score band (rate band)) (start other) (rate other)) 44 < length_of band
    -- that these are the steps granted: grants_of is what the rounds of the contest grant, in their order, each grant a band and its score before it falls
    -- (contest/specs/Grants). As many steps went to a band as its rate says, and step t, from 0, at its starting score − 32 t
    pub steps_fall : (band : ℕ) → band < 44 → scores_to band (grants_of transient wide norms budget) ≡ table (rate band) (score band)
    -- so the same on the rounds themselves: what they granted at a score below the band's final one costs less than its length
    pub none_to_quieter_rounds : (band : ℕ) → band < 44 → competing wide band ≡ true → rate band < 9
        → cost_below length_of (score band (rate band)) (grants_of transient wide norms budget) < length_of band

abbrev pub Demand3 : Type 0
Demand3 =
    (transient wide : Bool) (norms : List ℕ) (budget : ℕ) → ((band : ℕ) → band < 44 → nth norms band ≤ 39) → budget ≤ 2560
    → SharedFairly transient wide norms budget
