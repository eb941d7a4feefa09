-- The listing of a recording (01, Lister): a line for each frame, the refused one too, and the total line.
-- Assumes nothing.
use Rattle.std.specs.Prelude.{cond, List, [], ◌∷◌, ◌++◌, ℕ, zero, suc, ◌+◌, ltb, length, drop, Result, Ok, Err}
use Rattle.ground.specs.Replies.{done, short_room, no_data}
use Rattle.ground.specs.Numbered.{number}
use Rattle.ground.specs.declared.replies.Reply.{Reply}
use Rattle.prefix.specs.Sizes.{mode_bytes}
use Rattle.frame.specs.Answers.{Outcome, refused, empty, sound}
use Rattle.recording.specs.Walk.{stored_at, walk, most_frames}
use Rattle.recording.specs.declared.answer.Check.{Check}
use Rattle.listing.specs.Text.{frame_line, total_line, too_long}

-- a frame's line, and behind a sound frame the lines of the part after it; a refused frame has 0 body bytes
unfoldable pub line_of : ℕ → Outcome → (ℕ → List ℕ) → List ℕ
line_of number (refused x) rest = frame_line number x 0
line_of number empty rest = frame_line number no_data 0 ++ rest 1
line_of number (sound mode x) rest = frame_line number done (mode_bytes mode) ++ rest (mode_bytes mode + 1)

-- the lines of the walk with so many frames still allowed: none for a byte after the last of them
unfoldable pub lines : ℕ → ℕ → List ℕ → List ℕ
lines zero number s = []
lines (suc n) number [] = []
lines (suc n) number (b ∷ s) = line_of number (stored_at (b ∷ s)) (λ k. lines n (number + 1) (drop k (b ∷ s)))

abbrev pub total_of : Check → List ℕ
total_of w = total_line w.count w.reply w.place

abbrev pub most_bytes : ℕ
most_bytes = 65536

unfoldable pub listing_of : List ℕ → List ℕ
listing_of src = cond (ltb most_bytes (length src)) too_long (lines most_frames 0 src ++ total_of (walk most_frames src))

-- room for every listing: 3,000 lines of 11 bytes and a total of 30
abbrev pub room : ℕ
room = 33030

-- what listing answers: the number, and how long the text is
pub record Listing : Type 0 where
  pub reply : ℕ
  pub length : ℕ

abbrev pub answer_of : Result ℕ Reply → Listing
answer_of (Ok n) = record { reply = done; length = n }
answer_of (Err x) = record { reply = number x; length = 0 }

-- 10 if the room is short
unfoldable pub listed_in : List ℕ → ℕ → Listing
listed_in src n = cond (ltb n room) (record { reply = short_room; length = 0 }) (record { reply = done; length = length (listing_of src) })

-- the text at the front, the rest kept
unfoldable pub out_after : List ℕ → List ℕ → List ℕ
out_after src out = cond (ltb (length out) room) out (listing_of src ++ drop (length (listing_of src)) out)
