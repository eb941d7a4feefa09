-- What is tried of every block first (02, No. 2; rooms are a matter of the call): 17 for the count of channels, 10 for the lent numbers and bytes.
-- Assumes nothing.
use Rattle.std.specs.Prelude.{not, List, [], ◌∷◌, ℕ, ◌*◌, ltb}
use Rattle.ground.specs.Refusals.{Cause, ◌gives◌}
use Rattle.ground.specs.Replies.{short_room, wrong_channels}
use Rattle.recording.specs.Blocks.{is_count}

-- 800 numbers and 320 bytes a channel, empty frames or not
unfoldable pub room_causes : ℕ → ℕ → ℕ → List Cause
room_causes n codes tails =
    not (is_count n) gives wrong_channels
    ∷ ltb codes (n * 800) gives short_room
    ∷ ltb tails (n * 320) gives short_room
    ∷ []
