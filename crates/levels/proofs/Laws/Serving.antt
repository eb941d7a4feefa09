-- The bands served one by one: what holds before a turn, and what is finished at the end. Assumes nothing.
use mathlib.Core.List.{List}
use mathlib.Core.Path.{◌≡◌, refl, ◌∙◌}
use Prim.Native.Nat.{ℕ, ◌+◌, ◌-◌}
use lib.ListN.{length, set, length-set}
use Rattle.ground.specs.Sums.{nth}
use Rattle.contest.specs.Bands.{length_of}
use Rattle.contest.specs.RaisedContest.{Game, contest}
use Rattle.levels.specs.Inner.{AtStart, Leading, state}
use Rattle.levels.proofs.Laws.GameAsLists.{state_serve}

-- the contest ends alike from both
pub record Serving (keys rates₀ : List ℕ) (left₀ : ℕ) (rates : List ℕ) (left : ℕ) : Type 0 where
  pub whole : length rates ≡ 44
  pub alike : (g : Game) → AtStart g keys → contest 396 (state g rates₀ left₀) ≡ contest 396 (state g rates left)

module _ {keys rates₀ : List ℕ} {left₀ : ℕ} {rates : List ℕ} {left : ℕ} (s : Serving keys rates₀ left₀ rates left) where
  pub serving_next : {q r size : ℕ} → Leading keys rates left q → r ≡ nth rates q + 1 → size ≡ length_of q
      → Serving keys rates₀ left₀ (set rates q r) (left - size)
  serving_next n er es =
      rw (er, es)
      (record { whole = simp length-set s.whole; alike = λ g l. s.alike g l ∙ state_serve g keys l rates left _ s.whole n _ refl })
