-- What legalising answers, and which norms it gives.
-- Assumes nothing.
use Rattle.std.specs.Prelude.{Bool, cond, List, ℕ, replicate}
use Rattle.ground.specs.Indices.{in_range}
use Rattle.ground.specs.Replies.{done, out_of_range}
use Rattle.legal.specs.Legal.{legal_of}
use Rattle.legal.specs.declared.Legal.{Legal}

unfoldable pub legalised : Bool → List ℕ → Legal
legalised transient norms =
    cond (in_range norms 44) (record { reply = done; norms = legal_of transient norms }) (record { reply = out_of_range; norms = replicate 44 0 })
