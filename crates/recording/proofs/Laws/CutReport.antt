-- The cut report: a recording that was cut inside a frame is told from a sound one, and the answer says where.
-- After k sound frames a part of a frame with data follows, at least its prefix byte and not all of it. Whatever the booking, the check answers 4 with
-- the k sound frames and the place of the cut frame: the prefix byte alone decides, since it says more bytes than are there. Only behind 3,000 frames the
-- answer is 15, for there no byte is read. A cut between two frames leaves a sound recording, and shows at the booking alone: 11
-- (`all_unbooked` of Checked).
-- Assumes nothing.
use mathlib.Core.Path.{◌≡◌, refl, ap, ◌∙◌}
use mathlib.Core.List.{List, ◌++◌}
use Prim.Native.Nat.{ℕ, ◌+◌, ◌≤◌, ◌<◌}
use native.Mathlib.Omega.{arith}
use lib.ListN.{length, take}
use lib.Seq.{length-take-le}
use Rattle.ground.specs.Replies.{cut, too_many}
use Rattle.prefix.specs.Sizes.{length_bytes, mode_bytes}
use Rattle.prefix.specs.Prefix.{prefix_of}
use Rattle.prefix.specs.declared.Prefix.{Prefix}
use Rattle.prefix.specs.declared.Prefix.TheVariants.{Data}
use Rattle.prefix.specs.declared.Length.{Length}
use Rattle.frame.specs.Layout.{Frame}
use Rattle.frame.specs.Answers.{sound, started}
use Rattle.frame.proofs.Laws.Reads.{data_cut}
use Rattle.recording.specs.Walk.{stored_at, step_of, most_frames, check_of}
use Rattle.recording.proofs.Laws.Walk.{stored_started}
use Rattle.recording.specs.Frames.{Frames}
use Rattle.recording.proofs.Laws.Frames.{first_cut, frame_unit}
use Rattle.recording.proofs.Laws.Checked.{refused_behind, byte_behind}

-- the prefix byte alone decides: bytes whose prefix says data and more bytes than follow, whatever they are
pub cut_byte : {k : ℕ} {s : List ℕ} → Frames k s → k < most_frames
    → (part : List ℕ) (l : Length) → prefix_of part ≡ Data l → 0 < length part → length part ≤ length_bytes l.0
    → (b : ℕ) → check_of (s ++ part) b ≡ record { reply = cut; count = k; place = length s }
cut_byte fs h part l q p n b =
    refused_behind frame_unit fs b part cut h p
    (ap step_of (stored_started part ∙ ap (λ (z : Prefix). started z part) q ∙ data_cut part l (length_bytes l.0) refl n))

pub cut_report : {k : ℕ} {s : List ℕ} → Frames k s
    → (f : List ℕ) (m : ℕ) (x : Frame) → stored_at f ≡ sound m x → length f ≡ mode_bytes m + 1
    → (j : ℕ) → 0 < j → j < length f
    → (b : ℕ)
    → (k < most_frames → check_of (s ++ take j f) b ≡ record { reply = cut; count = k; place = length s })
    × (k ≡ most_frames → check_of (s ++ take j f) b ≡ record { reply = too_many; count = most_frames; place = length s })
cut_report fs f m x e l j p h b =
    let n : length (take j f) ≡ j = length-take-le j f (omega arith) in (
      λ t. refused_behind frame_unit fs b (take j f) cut t (omega arith) (ap step_of (first_cut f m x e j p (omega arith))),
      λ t. byte_behind frame_unit fs b (take j f) t (omega arith),
    )
