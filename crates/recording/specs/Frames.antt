-- Sound stored frames, one after the other.
-- Assumes nothing.
use Rattle.std.specs.Prelude.{◌≡◌, List, ℕ, ◌+◌, length}
use Rattle.prefix.specs.Sizes.{mode_bytes}
use Rattle.frame.specs.Layout.{Frame}
use Rattle.frame.specs.Answers.{empty, sound}
use Rattle.recording.specs.Walk.{stored_at}
use Rattle.recording.specs.Units.{Units}

-- exactly one sound stored frame: a byte that says no data, or a prefix byte and the body of its mode
pub data Stored (f : List ℕ) : Type 0 where
  bare : stored_at f ≡ empty → length f ≡ 1 → Stored f
  full : (m : ℕ) (x : Frame) → stored_at f ≡ sound m x → length f ≡ mode_bytes m + 1 → Stored f

-- so many of them, one after the other
abbrev pub Frames : ℕ → List ℕ → Type 0
Frames k s = Units Stored k s
