-- What the rounds of Rounds grant, in their order. 01: "loudness is this score, and a step is granted at the score before it falls."
use Rattle.std.specs.Prelude.{Bool, true, false, cond, List, [], ◌∷◌, ◌++◌, ℕ, zero, suc, ◌+◌, eqb, leb, ℤ}
use Rattle.std.specs.Int.Signed.{lt_z}
use Rattle.contest.specs.Rounds.{Game, first, ahead, round, begin}

-- a step of rate: the band that got it, and its score before it fell
pub record Grant : Type 0 where
  pub band : ℕ
  pub score : ℤ

-- what a round grants: a step to the leader, or nothing where its length does not fit the bits left
unfoldable pub grant_in : Game → List Grant
grant_in g = cond (leb (ahead g).size g.left) (record { band = first g; score = (ahead g).score } ∷ []) []

-- what n rounds grant, or fewer where none competes any more: the recursion of `contest`
unfoldable pub grants : ℕ → Game → List Grant
grants zero g = []
grants (suc n) g = elim (ahead g).competes [ true ↦ grant_in g ++ grants n (round g) | false ↦ [] ]

-- what the contest to its end grants, as `played`
unfoldable pub granting : (ℕ → ℕ) → (ℕ → ℤ) → (ℕ → Bool) → ℕ → List Grant
granting size score competes budget = grants 396 (begin size score competes budget)

-- the scores at which a band was served, in the order of the rounds
unfoldable pub scores_to : ℕ → List Grant → List ℤ
scores_to j [] = []
scores_to j (a ∷ rest) = cond (eqb a.band j) (a.score ∷ scores_to j rest) (scores_to j rest)

-- what the steps granted at a score below s cost together: each the length of its band
unfoldable pub cost_below : (ℕ → ℕ) → ℤ → List Grant → ℕ
cost_below size s [] = 0
cost_below size s (a ∷ rest) = cond (lt_z a.score s) (size a.band) 0 + cost_below size s rest
