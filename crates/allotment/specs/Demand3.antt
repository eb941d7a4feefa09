-- Demand 3, bits are shared fairly: for all 44 indices from 0 to 39, both kinds of frame, both widths and every budget to 2,560, the call answers 0 and shares
-- fairly. Fair (contest/specs/Fairness) speaks of the lengths, the starting scores of 7.5.1 and the answer alone. The proof is in proofs/Laws/Fair.
use Rattle.std.specs.Prelude.{◌≡◌, Bool, List, ℕ, ◌<◌, ◌≤◌}
use Rattle.ground.specs.Replies.{done}
use Rattle.ground.specs.Sums.{nth}
use Rattle.weights.specs.Weights.{nth_z, scores_of}
use Rattle.contest.specs.Bands.{length_of, competing}
use Rattle.contest.specs.Fairness.{Fair}
use Rattle.allotment.specs.Allotment.{shares_of}

abbrev pub Demand3 : Type 0
Demand3 =
    (transient wide : Bool) (norms : List ℕ) (budget : ℕ) → ((p : ℕ) → p < 44 → nth norms p ≤ 39) → budget ≤ 2560
    → ((shares_of transient wide norms budget).reply ≡ done)
    × Fair length_of (nth_z (scores_of transient norms)) (competing wide) budget
    (nth (shares_of transient wide norms budget).rates) (shares_of transient wide norms budget).left
