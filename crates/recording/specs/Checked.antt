-- What an answer of the check tells, of frames and of blocks alike: the true count and place, and the cause of its number.
-- Assumes nothing.
use Rattle.std.specs.Prelude.{◌≡◌, List, [], ◌++◌, ◌⊎◌, ℕ, ◌≤◌, ◌<◌, length}
use Rattle.ground.specs.Replies.{done, not_as_booked, too_many}
use Rattle.recording.specs.Walk.{Step, stops, most_frames}
use Rattle.recording.specs.Units.{Units}
use Rattle.recording.specs.declared.answer.Check.{Check}

-- ---- what an answer tells

-- 0: the end, as booked; 11: the end, not as booked; 15: a byte left after 3,000 units; else the unit there is refused with the number
pub data Reason (unit : List ℕ → Step) (b : ℕ) (rest : List ℕ) (c : Check) : Type 0 where
  agreed : c.reply ≡ done → c.count ≡ b → rest ≡ [] → Reason unit b rest c
  unbooked : c.reply ≡ not_as_booked → (c.count ≡ b → ⊥) → rest ≡ [] → Reason unit b rest c
  passed_all : c.reply ≡ too_many → c.count ≡ most_frames → 0 < length rest → Reason unit b rest c
  stopped_at_lem : unit rest ≡ stops c.reply → (2 ≤ c.reply) × (c.reply ≤ 7) → c.count < most_frames → 0 < length rest → Reason unit b rest c

pub record Checked (unit : List ℕ → Step) (Whole : List ℕ → Type 0) (src : List ℕ) (b : ℕ) (c : Check) : Type 0 where
  pub front : List ℕ
  pub rest : List ℕ
  pub whole : src ≡ front ++ rest
  pub units : Units Whole c.count front
  pub place : length front ≡ c.place
  pub few : c.count ≤ most_frames
  pub reason : Reason unit b rest c

-- 0, 2 to 7, 11 or 15
abbrev pub Number : ℕ → Type 0
Number x = (x ≡ done) ⊎ ((2 ≤ x) × (x ≤ 7)) ⊎ (x ≡ not_as_booked) ⊎ (x ≡ too_many)
