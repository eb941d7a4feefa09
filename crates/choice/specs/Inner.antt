-- What the functions of this crate promise each other.
-- Assumes nothing.
use Rattle.std.specs.Prelude.{Bool, List, ℕ, ltb, length, get_or}
use Rattle.ground.specs.Sums.{sum_to}
use Rattle.choice.specs.Choice.{as_word, as_fixed}

-- whether words cost less, over kinds and numbers
unfoldable pub cheaper : List ℕ → List ℕ → Bool
cheaper ks vs = ltb (sum_to (λ j. as_word (get_or ks j 0) (get_or vs j 0)) (length ks)) (sum_to (λ j. as_fixed (get_or ks j 0)) (length ks))
