-- The same contest with each score raised by 368, so that nine steps of 32 from a score of −80 stay natural: what the proofs and the code count in.
-- proofs/Laws/SameContest shows that it is the contest of Rounds.
use Rattle.std.specs.Prelude.{◌≡◌, Bool, true, false, cond, List, ℕ, zero, suc, ◌+◌, ◌-◌, ◌*◌, ◌<◌, ◌≤◌, leb, ltb, get_or, set}
use Rattle.ground.specs.ListsByRule.{table}

pub record Band : Type 0 where
  pub size : ℕ
  pub score : ℕ
  pub rate : ℕ
  pub competes : Bool

pub record Game : Type 0 where
  pub bands : List Band
  pub left : ℕ

abbrev pub nobody : Band
nobody = record { size = 0; score = 368; rate = 0; competes = false }

abbrev pub at : List Band → ℕ → Band
at bands p = get_or bands p nobody

-- 0 for a band that is out, else one more than its score
unfoldable pub key : Band → ℕ
key b = cond b.competes (suc b.score) 0

unfoldable pub leader : List Band → ℕ → ℕ
leader bands zero = zero
leader bands (suc n) = let l = leader bands n in cond (ltb (key (at bands l)) (key (at bands (suc n)))) (suc n) l

unfoldable pub granted : Band → Band
granted b = record { size = b.size; score = b.score - 32; rate = b.rate + 1; competes = ltb (b.rate + 1) 9 }

unfoldable pub dropped : Band → Band
dropped b = record { size = b.size; score = b.score; rate = b.rate; competes = false }

unfoldable pub first : Game → ℕ
first g = leader g.bands 43

unfoldable pub ahead : Game → Band
ahead g = at g.bands (first g)

unfoldable pub fits : Game → Bool
fits g = leb (ahead g).size g.left

abbrev pub served : Game → Game
served g = record { bands = set g.bands (first g) (granted (ahead g)); left = g.left - (ahead g).size }

abbrev pub refused : Game → Game
refused g = record { bands = set g.bands (first g) (dropped (ahead g)); left = g.left }

unfoldable pub round : Game → Game
round g = cond (fits g) (served g) (refused g)

unfoldable pub contest : ℕ → Game → Game
contest zero g = g
contest (suc n) g = elim (ahead g).competes [ true ↦ contest n (round g) | false ↦ g ]

unfoldable pub fresh : (ℕ → ℕ) → (ℕ → ℕ) → (ℕ → Bool) → ℕ → Band
fresh size height competes p = record { size = size p; score = height p; rate = 0; competes = competes p }

unfoldable pub begin : (ℕ → ℕ) → (ℕ → ℕ) → (ℕ → Bool) → ℕ → Game
begin size height competes budget = record { bands = table 44 (fresh size height competes); left = budget }

-- while a band competes its rate is below 9, and its score leaves room for the steps that may follow
pub record Ready (b : Band) : Type 0 where
  pub below : b.rate < 9
  pub room : 32 * (9 - b.rate) ≤ b.score

abbrev pub Readys : Band → Type 0
Readys b = b.competes ≡ true → Ready b

abbrev pub Sound : Game → Type 0
Sound g = (p : ℕ) → Readys (at g.bands p)
