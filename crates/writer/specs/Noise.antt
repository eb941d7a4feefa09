-- Whether the noise is one that the kind of frame has.
-- Assumes nothing.
use Rattle.std.specs.Prelude.{Bool, cond, ℕ, ltb, eqb}

-- 8: noise over 3, or nonzero in transient
unfoldable pub noise_fits : Bool → ℕ → Bool
noise_fits transient noise = cond transient (eqb noise 0) (ltb noise 4)
