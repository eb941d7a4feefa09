-- That a cut report is never called complete: the page Recordings.
-- Assumes nothing.
use mathlib.Core.Path.{◌≡◌}
use mathlib.Core.List.{List, ◌++◌}
use Prim.Native.Nat.{ℕ, ◌<◌}
use native.Mathlib.Omega.{arith}
use lib.ListN.{length, take}
use Rattle.ground.specs.Replies.{cut, too_many}
use Rattle.recording.specs.Walk.{most_frames, check_of}
use Rattle.recording.specs.Frames.{Stored, Frames, bare, full}
use Rattle.recording.proofs.Laws.Frames.{frame_unit}
use Rattle.recording.proofs.Laws.Checked as checked
use Rattle.recording.proofs.Laws.CutReport as cutting
use Rattle.promises.specs.Recordings.{Recordings}

-- a frame of no data is one byte and has no such part
cut_report : {k : ℕ} {s : List ℕ} → Frames k s → (f : List ℕ) → Stored f → (j : ℕ) → 0 < j → j < length f → (booking : ℕ)
    → (k < most_frames → check_of (s ++ take j f) booking ≡ record { reply = cut; count = k; place = length s })
    × (k ≡ most_frames → check_of (s ++ take j f) booking ≡ record { reply = too_many; count = most_frames; place = length s })
cut_report fs f (bare e n) j h l booking = absurd (omega arith)
cut_report fs f (full m x e n) j h l booking = cutting.cut_report fs f m x e n j h l booking

pub recordings : Recordings
recordings =
    record {
      cut_report = cut_report;
      complete = checked.check_whole frame_unit;
      not_as_booked = checked.check_unbooked frame_unit;
      no_invented_count = checked.check_told frame_unit;
    }
