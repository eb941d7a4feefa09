-- The contest of 7.5.2, round by round, in the words of 01 (Allotment). Scores are the paper's, in sixteenths.
use Rattle.std.specs.Prelude.{Bool, true, false, cond, not, ◌&&◌, ◌||◌, List, ℕ, zero, suc, ◌+◌, ◌-◌, leb, ltb, ℤ, pos, ◌-ℤ◌, get_or, set}
use Rattle.std.specs.Int.Signed.{lt_z}
use Rattle.ground.specs.ListsByRule.{table}
use Rattle.ground.specs.Sums.{sum_to}

-- a band in the contest: its length, its score, its rate so far, and whether it still competes
pub record Band : Type 0 where
  pub size : ℕ
  pub score : ℤ
  pub rate : ℕ
  pub competes : Bool

-- the bands, and the bits left
pub record Game : Type 0 where
  pub bands : List Band
  pub left : ℕ

-- what stands past the last band
abbrev pub nobody : Band
nobody = record { size = 0; score = pos 0; rate = 0; competes = false }

abbrev pub at : List Band → ℕ → Band
at bands p = get_or bands p nobody

-- c goes before b: it competes, and b is out or has a lower score
unfoldable pub behind : Band → Band → Bool
behind b c = c.competes && (not b.competes || lt_z b.score c.score)

-- (34): of the bands 0 to n, the one with the highest score of those that compete, the lowest on ties
unfoldable pub leader : List Band → ℕ → ℕ
leader bands zero = zero
leader bands (suc n) = let l = leader bands n in cond (behind (at bands l) (at bands (suc n))) (suc n) l

-- (35): rate + 1, score − 32 (two steps of the index), and at rate 9 it is out
unfoldable pub granted : Band → Band
granted b = record { size = b.size; score = b.score -ℤ pos 32; rate = b.rate + 1; competes = ltb (b.rate + 1) 9 }

unfoldable pub dropped : Band → Band
dropped b = record { size = b.size; score = b.score; rate = b.rate; competes = false }

unfoldable pub first : Game → ℕ
first g = leader g.bands 43

unfoldable pub ahead : Game → Band
ahead g = at g.bands (first g)

-- (36): if its length fits the bits left it is served, and if not, it is out
unfoldable pub round : Game → Game
round g =
    cond (leb (ahead g).size g.left)
    (record { bands = set g.bands (first g) (granted (ahead g)); left = g.left - (ahead g).size })
    (record { bands = set g.bands (first g) (dropped (ahead g)); left = g.left })

-- n rounds, or fewer where none competes any more
unfoldable pub contest : ℕ → Game → Game
contest zero g = g
contest (suc n) g = elim (ahead g).competes [ true ↦ contest n (round g) | false ↦ g ]

-- how many of n rounds are played: the recursion of `contest`, one for each round, in which a band is served or put out
unfoldable pub counted : ℕ → Game → ℕ
counted zero g = 0
counted (suc n) g = elim (ahead g).competes [ true ↦ suc (counted n (round g)) | false ↦ 0 ]

-- (32): the start, all rates 0, from each band's length, score and whether it competes
unfoldable pub begin : (ℕ → ℕ) → (ℕ → ℤ) → (ℕ → Bool) → ℕ → Game
begin size score competes budget = record { bands = table 44 (λ p. record { size = size p; score = score p; rate = 0; competes = competes p }); left = budget }

-- the contest to its end: each of 44 bands takes at most nine rounds, so 396 are enough (proofs/Laws/SharesFairly, ended)
unfoldable pub played : (ℕ → ℕ) → (ℕ → ℤ) → (ℕ → Bool) → ℕ → Game
played size score competes budget = contest 396 (begin size score competes budget)

-- 02, No. 5: the number of rounds of the contest, as `played`
unfoldable pub rounds_played : (ℕ → ℕ) → (ℕ → ℤ) → (ℕ → Bool) → ℕ → ℕ
rounds_played size score competes budget = counted 396 (begin size score competes budget)

-- the rates of a state
unfoldable pub rates : Game → List ℕ
rates g = table 44 (λ p. (at g.bands p).rate)

-- 02, No. 5: what the number of rounds equals, the sum of all final rates plus the number of competing bands that end below rate 9
-- (proofs/Laws/CountedRounds, rounds_sum)
unfoldable pub rounds_by_rates : (ℕ → Bool) → (ℕ → ℕ) → ℕ
rounds_by_rates competes rate = sum_to rate 44 + sum_to (λ p. cond (competes p && ltb (rate p) 9) 1 0) 44
