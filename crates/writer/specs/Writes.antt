-- What writing a record answers (01, Numbered replies): 8 for the mode, 10, the other causes of 8, 9, 12, 7, 13; and the bytes of the frame.
-- Assumes nothing.
use Rattle.std.specs.Prelude.{◌≡◌, true, cond, not, List, [], ◌∷◌, ◌++◌, ℕ, ◌+◌, ◌-◌, ◌≤◌, ◌<◌, ltb, eqb, length, take, drop}
use Rattle.std.specs.declared.result.Result.{Result}
use Rattle.std.specs.declared.result.Result.TheVariants.{Ok, Err}
use Rattle.ground.specs.Numbered.{number}
use Rattle.ground.specs.declared.replies.Reply.{Reply}
use Rattle.ground.specs.Refusals.{Cause, ◌gives◌, first}
use Rattle.ground.specs.Replies.{done, out_of_range, short_room, wrong_tail}
use Rattle.bits.specs.Bits.{view, bytes_of}
use Rattle.prefix.specs.Sizes.{mode_bytes}
use Rattle.prefix.specs.Prefix.{byte_with}
use Rattle.norms.specs.Answers.{norm_causes}
use Rattle.frame.specs.Layout.{Frame, made_frame, frame}
use Rattle.frame.specs.declared.Record.{Record}
use Rattle.writer.specs.Noise.{noise_fits}
use Rattle.tails.specs.Tails.{clear}
use Rattle.layout.specs.Parts.{flag_bits, total, budget_for, kinds_for, codes_long, mode_cause, numbers_cause, code_causes}
use Rattle.writer.specs.declared.Writing.{Writing}

-- ---- the frame that a record means: its flags, norms, the first 800 codes, noise, and as many bits of the tail as it counts

abbrev pub frame_of : Record → List ℕ → List ℕ → Frame
frame_of r cs ts = made_frame (flag_bits r) r.norms (take 800 cs) r.noise (view ts 0 r.tail_bits)

-- the prefix byte and the body
unfoldable pub bytes_for : Record → List ℕ → List ℕ → List ℕ
bytes_for r cs ts = byte_with 0 (r.mode + 8) 0 ∷ bytes_of (mode_bytes r.mode) ((frame (total r)).write (frame_of r cs ts))

-- ---- the causes, as 01 lists them

-- 8 for the mode, 10 for the three rooms, 8 for the noise
unfoldable pub room_causes : Record → ℕ → ℕ → ℕ → List Cause
room_causes r codes tail room =
    mode_cause r
    ∷ numbers_cause codes
    ∷ ltb tail 320 gives short_room
    ∷ ltb room (mode_bytes r.mode + 1) gives short_room
    ∷ not (noise_fits r.transient r.noise) gives out_of_range
    ∷ []

-- 13: tail count or padding wrong
unfoldable pub tail_causes : List ℕ → ℕ → ℕ → List Cause
tail_causes ts left count =
    not (eqb count left) gives wrong_tail
    ∷ not (clear (view ts count (2560 - count))) gives wrong_tail
    ∷ []

-- behind the rooms and the noise the norms' 8 and 9, then 12, 7, 13
unfoldable pub write_causes : Record → List ℕ → List ℕ → ℕ → List Cause
write_causes r cs ts room =
    room_causes r (length cs) (length ts) room
    ++ norm_causes r.transient r.norms
    ++ code_causes (budget_for r) (kinds_for r) (take 800 cs)
    ++ tail_causes ts (budget_for r - codes_long (kinds_for r) (take 800 cs)) r.tail_bits

abbrev pub write_reply : Record → List ℕ → List ℕ → ℕ → ℕ
write_reply r cs ts room = first (write_causes r cs ts room)

-- ---- the answer and the output

abbrev pub writing_of : ℕ → ℕ → Writing
writing_of reply mode = cond (eqb reply 0) (record { reply = done; next = mode_bytes mode + 1 }) (record { reply = reply; next = 0 })

-- the next place, or a refusal alone
abbrev pub answered : Result ℕ Reply → Writing
answered (Ok next) = record { reply = done; next = next }
answered (Err r) = record { reply = number r; next = 0 }

-- on 0 exactly frame + 1 bytes change
abbrev pub out_after : ℕ → Record → List ℕ → List ℕ → List ℕ → List ℕ
out_after reply r cs ts out = cond (eqb reply 0) (bytes_for r cs ts ++ drop (mode_bytes r.mode + 1) out) out

-- ---- what a reply of 0 for the rooms tells

pub record Roomy (r : Record) (c t room : ℕ) : Type 0 where
  pub mode : r.mode ≤ 19
  pub codes : 800 ≤ c
  pub tail : 320 ≤ t
  pub out : mode_bytes r.mode < room
  pub quiet : noise_fits r.transient r.noise ≡ true
