-- What the functions of this crate promise each other.
-- Assumes nothing.
use Rattle.std.specs.Prelude.{◌≡◌, List, ◌++◌, ℕ, ◌+◌, ◌-◌, ◌≤◌, length, replicate}
use Rattle.ground.specs.ListsByRule.{table}
use Rattle.frames.specs.Places.{place_of}
use Rattle.joining.specs.Joining.{recording_at, block_of, InSource}
use Rattle.joining.specs.declared.Progress.{Progress}

-- where frame b begins in each recording; past their count 0
abbrev pub places_at : List ℕ → List ℕ → ℕ → List ℕ
places_at src lengths b =
    table (length lengths) (λ c. place_of (recording_at src lengths c) b) ++ replicate (8 - length lengths) 0

-- so many blocks are laid, behind them the next one has room
pub record BlocksLaid (src lengths out : List ℕ) (t : Progress) : Type 0 where
  pub lying : InSource src lengths
  pub places : t.places ≡ places_at src lengths t.block
  pub room : t.next + length (block_of (length lengths) (recording_at src lengths) t.block) ≤ length out
