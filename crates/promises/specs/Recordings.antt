-- Why this library exists: a report that stops in the middle of a frame is never called complete again. The words: `Frames k s` says that s is exactly k
-- sound stored frames one after the other (recording/specs/Frames); most_frames is 3,000.
-- Assumes nothing.
use Rattle.std.specs.Prelude.{◌≡◌, List, ◌++◌, ℕ, ◌≤◌, ◌<◌, length, take}
use Rattle.ground.specs.Replies.{done, cut, not_as_booked, too_many}
use Rattle.recording.specs.Walk.{frame_step, most_frames}
use Rattle.recording.specs.Frames.{Stored, Frames}
use Rattle.recording.specs.Checked as checked
use Rattle.promises.specs.Calls as call

pub record Recordings : Type 0 where
  -- k sound frames, then a part of a sound frame, at least a byte of it and not the whole: 4 at that frame's place, with k sound frames before it, whatever
  -- the booking. Only behind 3,000 frames, where no byte is read any more, it is 15
  pub cut_report : {k : ℕ} {s : List ℕ} → Frames k s → (f : List ℕ) → Stored f → (j : ℕ) → 0 < j → j < length f → (booking : ℕ)
      → (k < most_frames → call.check (s ++ take j f) booking ≡ record { reply = cut; count = k; place = length s })
      × (k ≡ most_frames → call.check (s ++ take j f) booking ≡ record { reply = too_many; count = most_frames; place = length s })
  -- complete: sound stored frames one after the other and nothing else, at most 3,000, as many as booked; and every such file is called complete
  pub complete : (src : List ℕ) (booking : ℕ)
      → ((call.check src booking).reply ≡ done → Frames booking src × (booking ≤ most_frames))
      × (Frames booking src → booking ≤ most_frames → (call.check src booking).reply ≡ done)
  -- a cut between frames shows at the booking
  pub not_as_booked : (src : List ℕ) (booking : ℕ)
      → ((call.check src booking).reply ≡ not_as_booked → (k : ℕ) × Frames k src × (k ≤ most_frames) × (k ≡ booking → ⊥))
      × ((k : ℕ) → Frames k src → k ≤ most_frames → (k ≡ booking → ⊥) → (call.check src booking).reply ≡ not_as_booked)
  -- no count is invented: in front of the place stand exactly so many sound frames, and behind it what the number says (Checked, recording/specs/Checked)
  pub no_invented_count : (src : List ℕ) (booking : ℕ) → checked.Checked frame_step Stored src booking (call.check src booking)
