-- What the flags say of the budget (01, Coefficient codes): the noise bits that it leaves out, who competes for it, and the kinds that come of it.
-- Assumes nothing.
use Rattle.std.specs.Prelude.{Bool, true, cond, List, ℕ, eqb}
use Rattle.allotment.specs.Allotment.{shares_of}
use Rattle.kinds.specs.Kinds.{kinds}

-- the noise bits
unfoldable pub noise_bits : Bool → ℕ
noise_bits transient = cond transient 0 2

-- All 44 compete; at 80 bytes with FlagL 0 only bands 0–35
unfoldable pub all_compete : ℕ → Bool → Bool
all_compete total l = cond (eqb total 640) l true

-- the kinds of the 800 places, from flags, norms and budget
unfoldable pub kinds_at : Bool → Bool → Bool → List ℕ → ℕ → List ℕ
kinds_at transient wide c norms budget = kinds c (shares_of transient wide norms budget).rates
