-- What the functions of this crate promise each other.
-- Assumes nothing.
use Rattle.std.specs.Prelude.{◌≡◌, cond, List, [], ℕ, ◌-◌, eqb, ltb, length}
use Rattle.recording.specs.Walk.{Step, stops, passes, walk, most_frames}
use Rattle.recording.specs.declared.answer.Check.{Check}
use Rattle.ground.specs.Laying.{laid_text}
use Rattle.ground.specs.Replies.{done, no_data, too_many}
use Rattle.listing.specs.Text.{frame_line}
use Rattle.listing.specs.Listing.{lines}

-- the line of a step of the walk: none for the end and for 15, which is unread; a sound frame of one byte is one of no data
unfoldable pub step_line : ℕ → Step → List ℕ
step_line number (stops x) = cond (eqb x done) [] (cond (eqb x too_many) [] (frame_line number x 0))
step_line number (passes k) = cond (ltb 1 k) (frame_line number done (k - 1)) (frame_line number no_data 0)

-- all lines are put: what the walk answers, and the place after the lines
pub record Complete (src out₀ out : List ℕ) (r : Check × ℕ) : Type 0 where
  pub answer : r.0 ≡ walk most_frames src
  pub after : r.1 ≡ length (lines most_frames 0 src)
  pub bytes : out ≡ laid_text out₀ 0 (lines most_frames 0 src)
