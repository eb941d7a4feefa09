-- The prefix byte (A.4.1, Table A.1): its fields, what it says, and the byte of a mode. 01: F before L; R is written 0 and ignored in reading.
-- Assumes nothing.
use Rattle.std.specs.Prelude.{cond, List, ℕ, ◌+◌, ◌*◌, ◌/◌, ◌%◌, eqb, ltb, length, get_or}
use Rattle.std.specs.declared.result.Result.{Result}
use Rattle.std.specs.declared.result.Result.TheVariants.{Ok, Err}
use Rattle.ground.specs.Replies.{done, no_byte, marked, reserved, no_data}
use Rattle.ground.specs.Numbered.{number}
use Rattle.ground.specs.declared.replies.Reply.{Reply}
use Rattle.ground.specs.declared.replies.Reply.TheVariants.{OutOfRange}
use Rattle.prefix.specs.Sizes.{Size, no_body, not_given, sized, table_a2, length_bytes}
use Rattle.prefix.specs.declared.Prefix.{Prefix}
use Rattle.prefix.specs.declared.Prefix.TheVariants.{Data, NoData, NoByte, Marked, Reserved}

-- ---- the fields, top bit first: F (1 bit), L (5), R (2)

abbrev pub field_f : ℕ → ℕ
field_f b = b / 128

abbrev pub field_l : ℕ → ℕ
field_l b = b / 4 % 32

abbrev pub byte_with : ℕ → ℕ → ℕ → ℕ
byte_with f l r = 128 * f + 4 * l + r

-- ---- reading

abbrev pub said : Size → ℕ → Prefix
said no_body l = NoData
said not_given l = Reserved
said (sized n) l = Data (record { 0 = l })

unfoldable pub prefix_byte : ℕ → Prefix
prefix_byte b = cond (eqb (field_f b) 1) Marked (said (table_a2 (field_l b)) (field_l b))

unfoldable pub prefix_of : List ℕ → Prefix
prefix_of s = cond (eqb (length s) 0) NoByte (prefix_byte (get_or s 0 0))

-- 01's number and values for each case; only 0 and 14 give a next place
pub record PrefixReading : Type 0 where
  pub reply : ℕ
  pub field : ℕ
  pub bytes : ℕ
  pub next : ℕ

abbrev pub reading_of : Prefix → PrefixReading
reading_of (Data l) = record { reply = done; field = l.0; bytes = length_bytes l.0; next = 1 }
reading_of NoData = record { reply = no_data; field = 0; bytes = 0; next = 1 }
reading_of NoByte = record { reply = no_byte; field = 0; bytes = 0; next = 0 }
reading_of Marked = record { reply = marked; field = 0; bytes = 0; next = 0 }
reading_of Reserved = record { reply = reserved; field = 0; bytes = 0; next = 0 }

-- ---- writing

unfoldable pub byte_of : ℕ → Result ℕ Reply
byte_of m = cond (ltb m 20) (Ok (byte_with 0 (m + 8) 0)) (Err OutOfRange)

pub record PrefixWriting : Type 0 where
  pub reply : ℕ
  pub byte : ℕ

abbrev pub writing_of : Result ℕ Reply → PrefixWriting
writing_of (Ok b) = record { reply = done; byte = b }
writing_of (Err r) = record { reply = number r; byte = 0 }

-- a byte with R = 0
abbrev pub zero_r : ℕ → ℕ
zero_r b = byte_with (field_f b) (field_l b) 0
