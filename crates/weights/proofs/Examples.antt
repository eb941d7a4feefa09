-- The starred example of the weights, and examples of our own: computed from the definition.
-- Assumes nothing.
use mathlib.Core.Path.{◌≡◌, refl}
use mathlib.Core.Bool.{true, false}
use mathlib.Core.List.{[], ◌∷◌, ◌++◌}
use lib.IntN.{pos, negsuc}
use lib.ListN.{replicate}
use Rattle.ground.specs.ListsByRule.{from}
use Rattle.weights.specs.Table17.{table17, row_at, has, seek, row_of}
use Rattle.weights.specs.Weights.{loudness, sum_over, spe, bspe, forward, backward, renormed, largest, smallest, mapped, louds, spes, row_weights, spread}
use Rattle.weights.specs.Weights.{weights_of, score, scores_of, weighed}
use Rattle.ground.specs.Indices.{in_range}

-- ★ stationary, index 0 in band 0, 20 elsewhere, as the call answers it; the scores are 16 × 34 and 16 × 14 with the weights added
pub starred :
    weighed false (0 ∷ replicate 43 20)
    ≡ record {
      reply = 0;
      weights = 0 ∷ 12 ∷ 25 ∷ 38 ∷ 51 ∷ replicate 39 64;
      scores = pos 544 ∷ pos 236 ∷ pos 249 ∷ pos 262 ∷ pos 275 ∷ replicate 39 (pos 288);
    }
unfolding
    table17 row_at has seek row_of loudness sum_over spe bspe forward backward renormed largest smallest mapped louds spes row_weights spread weights_of score scores_of
    in_range weighed from
starred = refl

-- a transient frame with negative scores, as the call answers it: floored for the rows and again over the four bands
pub transient :
    weighed true (0 ∷ 5 ∷ replicate 38 20 ++ replicate 4 39)
    ≡ record {
      reply = 0;
      weights = replicate 4 0 ++ replicate 4 33 ++ replicate 24 40 ++ replicate 4 46 ++ replicate 8 64;
      scores =
          pos 544 ∷ pos 464 ∷ pos 224 ∷ pos 224 ∷ replicate 4 (pos 257) ++ replicate 24 (pos 264) ++ replicate 4 (pos 270) ++ replicate 4 (pos 288)
          ++ replicate 4 (negsuc 15);
    }
unfolding
    table17 row_at has seek row_of loudness sum_over spe bspe forward backward renormed largest smallest mapped louds spes row_weights spread weights_of score scores_of
    in_range weighed from
transient = refl

-- an index over 39 in the last band
pub refused : weighed false (replicate 43 20 ++ (40 ∷ [])) ≡ record { reply = 8; weights = replicate 44 0; scores = replicate 44 (pos 0) }
unfolding in_range weighed
refused = refl
