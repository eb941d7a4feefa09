-- What the functions of this crate promise each other.
-- Assumes nothing.
use Rattle.std.specs.Prelude.{ℕ, zero, suc, Option, Some, None, Result, Ok, Err}

-- what a read says: how many bytes there are, none at the end of the input; one that fails is not the end
abbrev pub told : {E : Type 0} → Result ℕ E → Result (Option ℕ) E
told (Ok zero) = Ok None
told (Ok (suc k)) = Ok (Some (suc k))
told (Err e) = Err e
