-- What the levels' call answers: the contest's end, from raised scores and a budget.
-- Assumes nothing.
use Rattle.std.specs.Prelude.{Bool, List, ℕ, ◌<◌, ◌≤◌}
use Rattle.ground.specs.ListsByRule.{table}
use Rattle.ground.specs.Sums.{nth}
use Rattle.contest.specs.Bands.{length_of, competing}
use Rattle.contest.specs.RaisedContest.{Game, at, contest, begin}
use Rattle.levels.specs.declared.Ends.{Ends}

-- raised scores that leave room for nine steps
abbrev pub Room : List ℕ → Type 0
Room heights = (p : ℕ) → p < 44 → (288 ≤ nth heights p) × (nth heights p ≤ 976)

-- the contest's end
unfoldable pub end_of : Bool → List ℕ → ℕ → Game
end_of wide heights budget = contest 396 (begin length_of (nth heights) (competing wide) budget)

unfoldable pub settled : Bool → List ℕ → ℕ → Ends
settled wide heights budget =
    record { rates = table 44 (λ p. (at (end_of wide heights budget).bands p).rate); left = (end_of wide heights budget).left }
