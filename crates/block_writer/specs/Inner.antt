-- What the functions of this crate promise each other.
-- Assumes nothing.
use Rattle.std.specs.Prelude.{Option, None, Some, ℕ, ◌+◌}
use Rattle.prefix.specs.Sizes.{mode_bytes}
use Rattle.frame.specs.declared.Record.{Record}

abbrev pub frame_bytes : Option Record → ℕ
frame_bytes None = 1
frame_bytes (Some r) = mode_bytes r.mode + 1
