-- What the functions of this crate promise each other.
-- Assumes nothing.
use Rattle.std.specs.Prelude.{cond, ℕ, zero, suc, eqb}
use Rattle.ground.specs.Replies.{no_byte, cut}

-- the number of a frame behind so many others of its block
abbrev pub reply_behind : ℕ → ℕ → ℕ
reply_behind zero x = x
reply_behind (suc c) x = cond (eqb x no_byte) cut x
