-- The answers of `prefix` as structs: 01's numbers and values for each case, as `reading_of` and `writing_of` (prefix/specs/Prefix) give them.
-- Assumes nothing.
use Rattle.std.specs.Prelude.{ℕ, Result}
use Rattle.ground.specs.declared.replies.Reply.{Reply}
use Rattle.prefix.specs.Prefix.{reading_of, writing_of}
use Rattle.prefix.specs.declared.Prefix as Said
use Rattle.boundary.specs.declared.Prefix.{Prefix}
use Rattle.boundary.specs.declared.Byte.{Byte}

unfoldable pub prefix_numbers : Said.Prefix → Prefix
prefix_numbers p = record { reply = (reading_of p).reply; length = (reading_of p).field; bytes = (reading_of p).bytes; next = (reading_of p).next }

unfoldable pub byte_numbers : Result ℕ Reply → Byte
byte_numbers b = record { reply = (writing_of b).reply; byte = (writing_of b).byte }
