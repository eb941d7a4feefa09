-- The starred example of 01 on the file check, and the empty file.
-- Assumes nothing.
use mathlib.Core.Path.{◌≡◌, refl}
use mathlib.Core.List.{[], ◌∷◌}
use Prim.Native.Nat.{ℕ, ◌<◌}
use native.Mathlib.Omega.{arith}
use Rattle.prefix.specs.Sizes.{table_a2, length_bytes}
use Rattle.prefix.specs.Prefix.{prefix_of, prefix_byte}
use Rattle.frame.specs.Answers.{read_answer}
use Rattle.recording.specs.Walk.{stored_at, onward, next_step, walk_over, booked, check_over, check_of}
use Rattle.recording.specs.Units.{none}
use Rattle.recording.proofs.Laws.Frames.{frame_unit}
use Rattle.recording.proofs.Laws.Checked.{all_booked, all_unbooked}

-- ★ 00 20: one sound frame, reply 4 at place 1, whatever the booking
pub star_00_20 : (b : ℕ) → check_of (0x00 ∷ 0x20 ∷ []) b ≡ record { reply = 4; count = 1; place = 1 }
unfolding check_over booked walk_over next_step onward stored_at read_answer prefix_of prefix_byte table_a2 length_bytes
star_00_20 b = refl

-- an empty file has 0 frames
pub empty_file : check_of [] 0 ≡ record { reply = 0; count = 0; place = 0 }
empty_file = all_booked frame_unit none 0 (omega arith) refl

pub empty_unbooked : (b : ℕ) → 0 < b → check_of [] b ≡ record { reply = 11; count = 0; place = 0 }
empty_unbooked b h = all_unbooked frame_unit none b (omega arith) (λ e. omega arith)
