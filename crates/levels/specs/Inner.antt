-- What the functions of this crate promise each other.
-- Assumes nothing.
use Rattle.std.specs.Prelude.{◌≡◌, ◌≤◌, cond, ◌&&◌, Bool, List, ℕ, ◌+◌, ◌-◌, ◌*◌, ◌<◌, zero, suc, ◌%◌, ◌/◌, max, min, ltb, leb, length}
use Rattle.ground.specs.ListsByRule.{table}
use Rattle.ground.specs.Sums.{nth, sum_to}
use Rattle.contest.specs.Bands.{length_of, competing}
use Rattle.contest.specs.RaisedContest.{Band, Game, at, Sound, contest}

-- where the next offer of the band p stands among all offers, by score, then by band; 0 for a band that is out. A step takes 2,048 off.
unfoldable pub spot : ℕ → Band → ℕ
spot p b = cond b.competes (64 * b.score + (63 - p) + 2048) 0

-- the band after n steps
unfoldable pub stepped : ℕ → Band → Band
stepped n b = record { size = b.size; score = b.score - 32 * n; rate = b.rate + n; competes = b.competes && ltb (b.rate + n) 9 }

-- the game in which the bands have these rates
unfoldable pub state : Game → List ℕ → ℕ → Game
state g rates left = record { bands = table 44 (λ p. stepped (nth rates p) (at g.bands p)); left = left }

-- a game at its start, and the list of its bands' spots
pub record AtStart (g : Game) (keys : List ℕ) : Type 0 where
  pub all : length g.bands ≡ 44
  pub sound : Sound g
  pub unserved : (p : ℕ) → p < 44 → (at g.bands p).rate ≡ 0
  pub keyed : (p : ℕ) → p < 44 → nth keys p ≡ spot p (at g.bands p)
  pub sized : (p : ℕ) → p < 44 → length_of p ≡ (at g.bands p).size

-- how many offers of a band that starts at a spot stand above a level, nine at most
abbrev pub climb : ℕ → ℕ → ℕ
climb key level = min 9 ((key - level) / 2048)

abbrev pub part : List ℕ → ℕ → ℕ → ℕ
part keys level p = climb (nth keys p) level * length_of p

-- what the offers of the first n bands above a level cost
unfoldable pub bill : List ℕ → ℕ → ℕ → ℕ
bill keys level n = sum_to (part keys level) n

-- where the next offer stands of a band with such a start, length and rate, if it fits
unfoldable pub bid : ℕ → ℕ → ℕ → ℕ → ℕ
bid key size rate left = cond (leb size left) (cond (ltb rate 9) (key - 2048 * rate) 0) 0

abbrev pub bid_at : List ℕ → List ℕ → ℕ → ℕ → ℕ
bid_at keys rates left p = bid (nth keys p) (length_of p) (nth rates p) left

-- the highest of f 0, …, f (n − 1)
unfoldable pub highest : (ℕ → ℕ) → ℕ → ℕ
highest f zero = 0
highest f (suc n) = max (highest f n) (f n)

-- a spot above 0 has its band in its lowest six bits
abbrev pub Keyed : List ℕ → Type 0
Keyed keys = (p : ℕ) → p < 44 → 0 < nth keys p → nth keys p % 64 ≡ 63 - p

-- no band bids higher than q, which bids above 0
pub record Leading (keys rates : List ℕ) (left q : ℕ) : Type 0 where
  pub inside : q < 44
  pub bids : 0 < bid_at keys rates left q
  pub high : (p : ℕ) → p < 44 → bid_at keys rates left p ≤ bid_at keys rates left q

-- no bid is left, and the contest ends alike from both
pub record Finished (keys rates : List ℕ) (left : ℕ) (rates' : List ℕ) (left' : ℕ) : Type 0 where
  pub whole : length rates' ≡ 44
  pub none : (p : ℕ) → p < 44 → bid_at keys rates' left' p ≡ 0
  pub alike : (g : Game) → AtStart g keys → contest 396 (state g rates left) ≡ contest 396 (state g rates' left')

-- the spot of the band p at the start, from its raised score
unfoldable pub key_of : Bool → ℕ → ℕ → ℕ
key_of wide p height = cond (competing wide p) (64 * height + (63 - p) + 2048) 0

unfoldable pub keys_of : Bool → List ℕ → List ℕ
keys_of wide heights = table 44 (λ p. key_of wide p (nth heights p))
