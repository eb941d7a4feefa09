-- The allotment of 7.5.2 as a call: 44 norm indices and a budget to 44 rates (01, Allotment).
use Rattle.std.specs.Prelude.{Bool, cond, ◌&&◌, List, ℕ, leb, replicate}
use Rattle.ground.specs.Replies.{done, out_of_range}
use Rattle.weights.specs.Weights.{nth_z, scores_of}
use Rattle.ground.specs.Indices.{in_range}
use Rattle.contest.specs.Bands.{length_of, competing}
use Rattle.contest.specs.Grants.{Grant, granting}
use Rattle.contest.specs.Rounds.{Game, played, rounds_played, rates}
use Rattle.allotment.specs.declared.Shares.{Shares}

-- the end of the contest that starts from the scores of 7.5.1
unfoldable pub end_of : Bool → Bool → List ℕ → ℕ → Game
end_of transient wide norms budget = let ss = scores_of transient norms in played length_of (nth_z ss) (competing wide) budget

-- the steps that this contest grants, in the order of its rounds
unfoldable pub grants_of : Bool → Bool → List ℕ → ℕ → List Grant
grants_of transient wide norms budget = granting length_of (nth_z (scores_of transient norms)) (competing wide) budget

-- the 44 rates, and the bits left
unfoldable pub rates_of : Bool → Bool → List ℕ → ℕ → List ℕ
rates_of transient wide norms budget = rates (end_of transient wide norms budget)

unfoldable pub left_of : Bool → Bool → List ℕ → ℕ → ℕ
left_of transient wide norms budget = (end_of transient wide norms budget).left

-- the number of rounds that this contest takes (02, No. 5)
unfoldable pub rounds_of : Bool → Bool → List ℕ → ℕ → ℕ
rounds_of transient wide norms budget = rounds_played length_of (nth_z (scores_of transient norms)) (competing wide) budget

-- what the call answers: 0, the rates, the bits left and the number of rounds, or 8 and zeros for an index over 39 or a budget over 2,560
unfoldable pub shares_of : Bool → Bool → List ℕ → ℕ → Shares
shares_of transient wide norms budget =
    cond (in_range norms 44 && leb budget 2560)
    (record {
      reply = done;
      rates = rates_of transient wide norms budget;
      left = left_of transient wide norms budget;
      rounds = rounds_of transient wide norms budget;
    })
    (record { reply = out_of_range; rates = replicate 44 0; left = 0; rounds = 0 })
