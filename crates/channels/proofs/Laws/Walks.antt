-- A walk that comes to the end, and sound blocks: each tells the other; and the check of blocks by its test.
-- Assumes nothing.
use mathlib.Core.Path.{◌≡◌, refl, sym, ap, ◌∙◌, subst}
use mathlib.Core.Bool.{true, false}
use mathlib.Core.List.{List, [], ◌++◌, append-nil}
use Prim.Native.Nat.{ℕ, ◌-◌, ◌≤◌}
use native.Mathlib.Nat.{mul-one}
use native.Mathlib.Omega.{arith}
use lib.ListN.{length}
use Rattle.ground.specs.Replies.{done, wrong_channels}
use Rattle.recording.specs.Walk.{most_frames, walk_over, made_check, ahead}
use Rattle.recording.proofs.Laws.Walk.{ahead_stopped, walk_end}
use Rattle.recording.proofs.Laws.Units.{WalkSays, Stop, ended, passed, met, walk_says, walk_units}
use Rattle.recording.specs.Frames.{Frames}
use Rattle.recording.specs.Blocks.{Blocks, is_count, block_step, walk_blocks, check_blocks}
use Rattle.recording.proofs.Laws.Blocks.{block_unit}
use Rattle.frames.proofs.Laws.Frames.{blocks_frames, frames_blocks}
use Rattle.channels.specs.Copies.{check_answer}

-- exactly so many sound blocks, at most 3,000, and nothing else
pub walk_sound : (n : ℕ) → 1 ≤ n → (s : List ℕ) → (walk_blocks n s).reply ≡ 0
    → Blocks n (walk_blocks n s).count s × ((walk_blocks n s).count ≤ most_frames) × ((walk_blocks n s).place ≡ length s)
walk_sound n h s e = go t.stop
  where
    t : WalkSays (block_step n) (Frames n) most_frames s (walk_blocks n s)
    t = walk_says (block_unit n h) most_frames s

    go : Stop (block_step n) most_frames t.rest (walk_blocks n s)
        → Blocks n (walk_blocks n s).count s × ((walk_blocks n s).count ≤ most_frames) × ((walk_blocks n s).place ≡ length s)
    go (ended r q) =
        let w : s ≡ t.front = t.whole ∙ ap (λ (x : List ℕ). t.front ++ x) q ∙ append-nil t.front in
        (subst (Blocks n (walk_blocks n s).count) (sym w) t.units, t.few, sym t.place ∙ ap length (sym w))
    go (passed r q l) = absurd (omega arith)
    go (met l k r) = absurd (let f = (block_unit n h).number t.rest (walk_blocks n s).reply l r in omega (arith, f.0))

pub walk_made : (n : ℕ) → 1 ≤ n → (k : ℕ) (s : List ℕ) → Blocks n k s → k ≤ most_frames → walk_blocks n s ≡ made_check done k (length s)
walk_made n h k s B l =
    ap (walk_over (block_step n) most_frames) (sym (append-nil s)) ∙ walk_units (block_unit n h) most_frames [] B l
    ∙ ap (ahead k (length s)) (walk_end (block_step n) (most_frames - k) [] refl) ∙ ahead_stopped k (length s) done

-- of one channel: so many sound frames
pub own_frames : (s : List ℕ) → (walk_blocks 1 s).reply ≡ 0 → Frames (walk_blocks 1 s).count s
own_frames s e = subst (λ (k : ℕ). Frames k s) (mul-one (walk_blocks 1 s).count) (blocks_frames (walk_sound 1 (omega arith) s e).0)

pub own_made : (k : ℕ) (s : List ℕ) → Frames k s → k ≤ most_frames → walk_blocks 1 s ≡ made_check done k (length s)
own_made k s f l = walk_made 1 (omega arith) k s (frames_blocks 1 k s (subst (λ (j : ℕ). Frames j s) (sym (mul-one k)) f)) l

-- ---- the check of blocks, by the count of channels

module _ (src : List ℕ) (n booking : ℕ) where
  pub check_uncounted : is_count n ≡ false → made_check wrong_channels 0 0 ≡ check_answer src n booking
  unfolding check_answer
  check_uncounted e = rw e refl

  pub check_counted : is_count n ≡ true → check_blocks n src booking ≡ check_answer src n booking
  unfolding check_answer
  check_counted e = rw e refl
