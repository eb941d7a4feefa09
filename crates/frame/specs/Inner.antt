-- What the functions of this crate promise each other.
-- Assumes nothing.
use Rattle.std.specs.Prelude.{◌≡◌, List, ◌++◌, ℕ, ◌+◌, ◌-◌, ◌*◌, ◌≤◌, length, drop}
use Rattle.std.specs.declared.result.Result.{Result}
use Rattle.std.specs.declared.result.Result.TheVariants.{Ok, Err}
use Rattle.ground.specs.Replies.{done}
use Rattle.ground.specs.Numbered.{number}
use Rattle.ground.specs.declared.replies.Reply.{Reply}
use Rattle.bits.specs.Bits.{view}
use Rattle.bits.specs.Codings.{got}
use Rattle.norms.specs.Part.{norm_part}
use Rattle.frame.specs.Layout.{is_transient, flag_n}
use Rattle.kinds.specs.Budget.{noise_bits}
use Rattle.frame.specs.Answers.{Outcome, body_of, stopped_at, reading_of, codes_after, tail_after}
use Rattle.tails.specs.Tails.{tail_from}
use Rattle.frame.specs.declared.Reading.{Reading}
use Rattle.frame.specs.declared.Record.{Record}

-- a body's record is answered with the place behind the prefix and the body, a refusal alone
abbrev pub body_reading : ℕ → Result Record Reply → Reading
body_reading n (Ok x) = record { reply = done; next = n + 1; «record» = x }
body_reading n (Err r) = stopped_at (number r) 0

abbrev pub data_reading : Result Reading Reply → Reading
data_reading (Ok r) = r
data_reading (Err r) = stopped_at (number r) 0

-- ---- the norms

-- norms are read, and end at p
pub record NormsRead (s ns : List ℕ) (p : ℕ) : Type 0 where
  pub said : (norm_part (is_transient (view s 0 4)) (flag_n (view s 0 4))).read (view s 4 (length s * 8 - 4)) ≡ got ns (view s p (length s * 8 - p))
  pub far : 4 ≤ p
  pub near : p ≤ 310
  pub four : 4 ≤ length s * 8
  pub room : p + noise_bits (is_transient (view s 0 4)) ≤ length s * 8

-- ---- what a reading tells

-- beside a reading of 0: the codes stand in cs, the tail is the body's last bits
pub record CodesAndTail (body : List ℕ) (o : Outcome) (r : Reading) (cs : List ℕ) : Type 0 where
  pub next : r.next ≡ length body + 1
  pub small : length body ≤ 320
  pub inside : r.«record».tail_bits ≤ length body * 8
  pub codes : (c : List ℕ) → cs ++ drop 800 c ≡ codes_after c o
  pub tail : (t : List ℕ) → tail_from body (length body * 8 - r.«record».tail_bits) ++ drop 320 t ≡ tail_after t o

pub record BodyRead (body : List ℕ) (o : Outcome) (r : Reading) (cs : List ℕ) : Type 0 where
  pub reading : r ≡ reading_of o
  pub held : r.reply ≡ 0 → CodesAndTail body o r cs

-- the body stands behind the prefix, up to the next place
pub record FrameRead (src : List ℕ) (o : Outcome) (r : Reading) (cs : List ℕ) : Type 0 where
  pub reading : r ≡ reading_of o
  pub held : r.reply ≡ 0 → (r.next ≤ length src) × CodesAndTail (body_of (r.next - 1) src) o r cs
