-- Legalising (01, Norms; 7.4, steps 1–4), in sent order, and when norms are nowhere above others (02, No. 14).
-- Assumes nothing.
use Rattle.std.specs.Prelude.{Bool, List, ℕ, zero, suc, ◌+◌, ◌-◌, ◌*◌, ◌≤◌, ◌<◌, min, get_or, set}
use Rattle.ground.specs.ListsByRule.{table}
use Rattle.ground.specs.Sums.{nth}
use Rattle.order.specs.SentOrder.{sent, banded}

-- ---- the three rules

-- "a first index over 31 becomes 31"
abbrev pub as_first : ℕ → ℕ
as_first index = min index 31

-- "an index more than 15 above its successor becomes successor + 15"
abbrev pub by_successor : ℕ → ℕ → ℕ
by_successor index successor = min index (successor + 15)

-- "one more than 16 above its predecessor becomes predecessor + 16"
abbrev pub by_predecessor : ℕ → ℕ → ℕ
by_predecessor index predecessor = min index (predecessor + 16)

-- ---- one after the other

unfoldable pub capped : List ℕ → List ℕ
capped ss = set ss 0 (as_first (get_or ss 0 0))

-- "last pair to first": place 43 − k then
unfoldable pub fallen : List ℕ → ℕ → ℕ
fallen ss zero = get_or ss 43 0
fallen ss (suc k) = by_successor (get_or ss (43 - suc k) 0) (fallen ss k)

-- "first to last": place i then
unfoldable pub risen : List ℕ → ℕ → ℕ
risen ss zero = get_or ss 0 0
risen ss (suc i) = by_predecessor (get_or ss (suc i) 0) (risen ss i)

abbrev pub lowered : List ℕ → List ℕ
lowered ss = table 44 (λ i. fallen ss (43 - i))

abbrev pub held : List ℕ → List ℕ
held ss = table 44 (risen ss)

unfoldable pub legal_sent : List ℕ → List ℕ
legal_sent ss = held (lowered (capped ss))

unfoldable pub legal_of : Bool → List ℕ → List ℕ
legal_of transient norms = banded transient (legal_sent (sent transient norms))

-- ---- "nowhere above": in none of the 44 bands, or places

abbrev pub NowhereAbove : List ℕ → List ℕ → Type 0
NowhereAbove xs ys = (band : ℕ) → band < 44 → nth xs band ≤ nth ys band

-- ---- why an index falls: place p allows at place i at most 15 a place more than its own index where it is sent later, 16 where it is sent earlier

abbrev pub allowed : List ℕ → ℕ → ℕ → ℕ
allowed ss p i = nth ss p + 15 * (p - i) + 16 * (i - p)
