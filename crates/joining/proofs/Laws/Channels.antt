-- Recordings of equal count joined, and channels taken out again: facts on the frames (02, No. 2).
-- Assumes nothing.
use mathlib.Core.Path.{◌≡◌, ap, ◌∙◌}
use mathlib.Core.List.{List}
use Prim.Native.Nat.{ℕ, zero, suc, ◌+◌, ◌*◌, ◌≤◌, ◌<◌}
use native.Mathlib.Decide.{dec_lt}
use native.Mathlib.Nat.{suc-mul}
use native.Mathlib.Omega.{arith}
use Rattle.ground.specs.Runs.{runs}
use Rattle.ground.proofs.Laws.Runs.{runs_same}
use Rattle.recording.specs.Frames.{Frames}
use Rattle.recording.specs.Blocks.{Blocks}
use Rattle.frames.specs.Places.{frame_at}
use Rattle.frames.proofs.Laws.Frames.{frame_stored, frames_made, frame_made, frames_back, blocks_frames, frames_blocks, blocks_made, frame_in_block}
use Rattle.frames.proofs.Laws.Frames.{runs_blocks}
use Rattle.channels.specs.Copies.{extracted}
use Rattle.joining.specs.Joining.{joined}

rows : (b k n : ℕ) → b < k → b * n + n ≤ k * n
rows b zero n h = absurd (omega arith)
rows b (suc k) n h =
    elim (dec_lt b k) [
      | yes l ↦ omega (arith, rows b k n l, suc-mul k n)
      | no l ↦
          (let e : b ≡ k = omega (arith, l) in omega (arith, ap (λ (j : ℕ). j * n) e, suc-mul k n))
    ]

-- n recordings of k frames each
module _ (n k : ℕ) (r : ℕ → List ℕ) (h : (c : ℕ) → c < n → Frames k (r c)) where
  -- joined, they are k blocks of n frames
  pub joined_blocks : Blocks n k (joined n k r)
  joined_blocks =
      frames_blocks n k (joined n k r)
      (blocks_made (λ b. runs n (λ c. frame_at (r c) b)) n k (λ b l. frames_made (λ c. frame_at (r c) b) n (λ c d. frame_stored (h c d) b l)))

  -- and channel c is recording c, byte for byte
  pub extracted_joined : (c : ℕ) → c < n → extracted n c k (joined n k r) ≡ r c
  extracted_joined c d =
      runs_same _ (frame_at (r c)) k (λ b l. frame_in_block (λ j i. frame_at (r i) j) n k b c (λ j i a e. frame_stored (h i e) j a) l d)
      ∙ frames_back (h c d)

-- k blocks of n frames
module _ (n k : ℕ) (s : List ℕ) (B : Blocks n k s) where
  frames : Frames (k * n) s
  frames = blocks_frames B

  index : (b c : ℕ) → b < k → c < n → b * n + c < k * n
  index b c hb hc = omega (arith, rows b k n hb)

  -- each channel is k sound frames
  pub extracted_frames : (c : ℕ) → c < n → Frames k (extracted n c k s)
  extracted_frames c d = frames_made (λ b. frame_at s (b * n + c)) k (λ b l. frame_stored frames (b * n + c) (index b c l d))

  -- and all channels joined are the recording
  pub joined_extracted : joined n k (λ c. extracted n c k s) ≡ s
  joined_extracted =
      runs_same _ (λ b. runs n (λ c. frame_at s (b * n + c))) k
      (λ b l. runs_same _ (λ c. frame_at s (b * n + c)) n
      (λ c d. frame_made (λ j. frame_at s (j * n + c)) k b (λ j a. frame_stored frames (j * n + c) (index j c a d)) l))
      ∙ runs_blocks (frame_at s) n k ∙ frames_back frames
