-- The stored frames of a recording, one behind the other (A.4.1): the prefix byte of each says where the next begins.
-- Assumes nothing.
use Rattle.std.specs.Prelude.{List, [], ◌∷◌, ◌++◌, ℕ, zero, suc, ◌+◌, min, length, take, drop}
use Rattle.ground.specs.ListsByRule.{table}
use Rattle.prefix.specs.Sizes.{length_bytes}
use Rattle.prefix.specs.Prefix.{prefix_of, zero_r}
use Rattle.prefix.specs.declared.Prefix.{Prefix}
use Rattle.prefix.specs.declared.Prefix.TheVariants.{Data, NoData, NoByte, Marked, Reserved}
use Rattle.recording.specs.Walk.{walk}

-- the bytes that a prefix byte says, with it; none where it says no frame
abbrev pub said_bytes : Prefix → ℕ
said_bytes NoByte = 0
said_bytes Marked = 0
said_bytes Reserved = 0
said_bytes NoData = 1
said_bytes (Data l) = length_bytes l.0 + 1

-- the bytes of the frame at the start, at most those that are there
unfoldable pub size_at : List ℕ → ℕ
size_at s = min (said_bytes (prefix_of s)) (length s)

-- the place so many frames behind a place
unfoldable pub place_from : List ℕ → ℕ → ℕ → ℕ
place_from s at zero = at
place_from s at (suc n) = place_from s at n + size_at (drop (place_from s at n) s)

-- frame i: its place, and its bytes
abbrev pub place_of : List ℕ → ℕ → ℕ
place_of s i = place_from s 0 i

abbrev pub frame_at : List ℕ → ℕ → List ℕ
frame_at s i = take (size_at (drop (place_of s i) s)) (drop (place_of s i) s)

-- all frames: as many as are sound from the start on
unfoldable pub frames_of : List ℕ → List (List ℕ)
frames_of s = table (walk (length s) s).count (frame_at s)

-- frames one behind the other
unfoldable pub concatenated : List (List ℕ) → List ℕ
concatenated [] = []
concatenated (f ∷ fs) = f ++ concatenated fs

-- a frame with R zero in its prefix byte
abbrev pub zeroed : List ℕ → List ℕ
zeroed [] = []
zeroed (b ∷ f) = zero_r b ∷ f
