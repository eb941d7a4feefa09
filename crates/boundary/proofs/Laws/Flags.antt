-- The laws of flags at the C boundary: a flag or a record that went out comes back as itself.
-- Assumes nothing.
use mathlib.Core.Path.{◌≡◌, refl}
use mathlib.Core.Bool.{Bool, true, false}
use Rattle.frame.specs.declared.Record as frame
use Rattle.boundary.specs.Flags.{flag_in, flag_out, record_in, record_out}

pub flag_back : (b : Bool) → flag_in (flag_out b) ≡ b
unfolding flag_in flag_out
flag_back true = refl
flag_back false = refl

-- so the record of a reading, handed back to be written, is the record that was read
pub record_back : (r : frame.Record) → record_in (record_out r) ≡ r
unfolding record_in record_out
record_back r = simp flag_back
