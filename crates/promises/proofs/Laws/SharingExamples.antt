-- The starred examples of the allotment, and examples of our own: computed from the definitions. They stand here and not beside the allotment, whose wrong
-- programs would each compute them anew.
-- Assumes nothing.
use mathlib.Core.Path.{◌≡◌, refl}
use mathlib.Core.Bool.{true, false}
use mathlib.Core.List.{[], ◌∷◌, ◌++◌}
use lib.ListN.{replicate}
use Rattle.ground.specs.ListsByRule.{from}
use Rattle.weights.specs.Table17.{table17, row_at, has, seek, row_of}
use Rattle.weights.specs.Weights.{loudness, sum_over, spe, bspe, forward, backward, renormed, largest, smallest, mapped, louds, spes, row_weights, spread}
use Rattle.weights.specs.Weights.{weights_of, score, scores_of}
use Rattle.ground.specs.Indices.{in_range}
use Rattle.contest.specs.Bands.{length_of, competing}
use Rattle.contest.specs.Rounds.{behind, leader, granted, dropped, first, ahead, round, contest, counted, begin, played, rounds_played, rates}
use Rattle.allotment.specs.Allotment.{end_of, rates_of, left_of, rounds_of, shares_of}

-- ★ all indices 20, stationary, all compete: budgets 414 and 500
pub starred :
    (shares_of false true (replicate 44 20) 414 ≡ record { reply = 0; rates = 2 ∷ replicate 29 1 ++ replicate 14 0; left = 6; rounds = 75 })
    × (shares_of false true (replicate 44 20) 500 ≡ record { reply = 0; rates = replicate 34 1 ++ replicate 10 0; left = 4; rounds = 78 })
unfolding
    table17 row_at has seek row_of loudness sum_over spe bspe forward backward renormed largest smallest mapped louds spes row_weights spread weights_of score scores_of
    in_range from length_of competing behind leader granted dropped first ahead round contest counted begin played rounds_played rates end_of rates_of left_of
    rounds_of shares_of
starred = (refl, refl)

-- unequal scores in a transient frame; louder bands 36 to 43 that do not compete; no budget; the largest budget
pub others :
    (shares_of true true (0 ∷ 5 ∷ replicate 38 20 ++ replicate 4 39) 2000
    ≡ record { reply = 0; rates = 9 ∷ 9 ∷ 1 ∷ 1 ∷ replicate 4 2 ++ replicate 22 3 ++ replicate 2 2 ++ replicate 8 3 ++ replicate 4 0; left = 0; rounds = 164 })
    × (shares_of false false (replicate 36 30 ++ replicate 8 0) 900 ≡ record { reply = 0; rates = replicate 29 2 ++ replicate 6 1 ++ replicate 9 0; left = 4; rounds = 100 })
    × (shares_of false true (replicate 44 39) 0 ≡ record { reply = 0; rates = replicate 44 0; left = 0; rounds = 44 })
    × (shares_of false true (replicate 44 0) 2560 ≡ record { reply = 0; rates = replicate 18 4 ++ replicate 26 3; left = 0; rounds = 194 })
unfolding
    table17 row_at has seek row_of loudness sum_over spe bspe forward backward renormed largest smallest mapped louds spes row_weights spread weights_of score scores_of
    in_range from length_of competing behind leader granted dropped first ahead round contest counted begin played rounds_played rates end_of rates_of left_of
    rounds_of shares_of
others = (refl, refl, refl, refl)

-- an index over 39, and a budget over 2,560
pub refused :
    (shares_of false true (replicate 43 20 ++ (40 ∷ [])) 414 ≡ record { reply = 8; rates = replicate 44 0; left = 0; rounds = 0 })
    × (shares_of false true (replicate 44 20) 2561 ≡ record { reply = 8; rates = replicate 44 0; left = 0; rounds = 0 })
unfolding in_range shares_of
refused = (refl, refl)

-- the bound on the number of rounds reached, and the most rounds
pub slowest :
    (rounds_of false true (replicate 16 0 ++ replicate 28 39) 1031 ≡ 172)
    × (rounds_of false true (replicate 24 0 ++ replicate 12 14 ++ replicate 8 39) 2560 ≡ 257)
unfolding
    table17 row_at has seek row_of loudness sum_over spe bspe forward backward renormed largest smallest mapped louds spes row_weights spread weights_of score scores_of
    from length_of competing behind leader granted dropped first ahead round counted begin rounds_played rounds_of
slowest = (refl, refl)
