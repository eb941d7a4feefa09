-- The file check (01, File check): frame after frame from the start, each read in full, until no byte is left, a frame is refused, or 3,000 are passed.
-- The walk goes over stored units: a unit is a frame here, and a block of several frames where a recording has several channels (02, No. 2).
-- Assumes nothing.
use Rattle.std.specs.Prelude.{cond, List, [], ◌∷◌, ℕ, zero, suc, ◌+◌, eqb, drop}
use Rattle.ground.specs.Replies.{done, not_as_booked, too_many}
use Rattle.prefix.specs.Sizes.{mode_bytes}
use Rattle.frame.specs.Answers.{Outcome, refused, empty, sound, read_answer}
use Rattle.recording.specs.declared.answer.Check.{Check}

-- the frame at the start, read with the check's own room
unfoldable pub stored_at : List ℕ → Outcome
stored_at s = read_answer s 800 320

-- number, count of sound frames, place
abbrev pub made_check : ℕ → ℕ → ℕ → Check
made_check x k n = record { reply = x; count = k; place = n }

-- a stop at the start
abbrev pub stopped : ℕ → Check
stopped x = made_check x 0 0

-- k sound frames, n bytes together, in front of a walk
abbrev pub ahead : ℕ → ℕ → Check → Check
ahead k n w = made_check w.reply (k + w.count) (n + w.place)

-- a stored unit at the start: it stops with a number, or passes with so many bytes
pub data Step : Type 0 where
  stops : ℕ → Step
  passes : ℕ → Step

abbrev pub step_of : Outcome → Step
step_of (refused x) = stops x
step_of empty = passes 1
step_of (sound mode x) = passes (mode_bytes mode + 1)

-- a frame as a unit
abbrev pub frame_step : List ℕ → Step
frame_step s = step_of (stored_at s)

-- a refused unit stops; behind a sound one the part after it is handed on
unfoldable pub onward : Step → (ℕ → Check) → Check
onward (stops x) rest = stopped x
onward (passes k) rest = ahead 1 k (rest k)

-- what stands at the start where so many units are still allowed: 0 where no byte is left, 15 for a byte where no unit is allowed, unread; else the unit
unfoldable pub next_step : (List ℕ → Step) → ℕ → List ℕ → Step
next_step unit n [] = stops done
next_step unit zero (b ∷ s) = stops too_many
next_step unit (suc n) (b ∷ s) = unit (b ∷ s)

-- the walk: step after step until one stops, and where no unit is allowed none passes
unfoldable pub walk_over : (List ℕ → Step) → ℕ → List ℕ → Check
walk_over unit zero s = onward (next_step unit zero s) (λ k. stopped too_many)
walk_over unit (suc n) s = onward (next_step unit (suc n) s) (λ k. walk_over unit n (drop k s))

abbrev pub walk : ℕ → List ℕ → Check
walk n s = walk_over frame_step n s

-- at the end the count is held against the booking: 11
unfoldable pub booked : ℕ → Check → Check
booked b w =
    cond (eqb w.reply done) (cond (eqb w.count b) w (made_check not_as_booked w.count w.place)) w

-- the most units of a recording
abbrev pub most_frames : ℕ
most_frames = 3000

-- the check of a recording of such units
unfoldable pub check_over : (List ℕ → Step) → List ℕ → ℕ → Check
check_over unit src booking = booked booking (walk_over unit most_frames src)

-- the file check
abbrev pub check_of : List ℕ → ℕ → Check
check_of src booking = check_over frame_step src booking
