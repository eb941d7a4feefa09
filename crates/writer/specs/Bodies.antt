-- The bits of a body, part after part.
-- Assumes nothing.
use Rattle.std.specs.Prelude.{◌≡◌, Bool, true, List, ◌++◌, map, ℕ, ◌-◌, ◌≤◌, length, take}
use Rattle.ground.specs.Replies.{done}
use Rattle.bits.specs.Bits.{word, view}
use Rattle.bits.specs.Codecs.{write_all, FitAll}
use Rattle.words.specs.Tables.{coding}
use Rattle.norms.specs.Part.{norm_bits}
use Rattle.norms.specs.Answers.{norm_reply}
use Rattle.kinds.specs.Budget.{noise_bits}
use Rattle.frame.specs.declared.Record.{Record}
use Rattle.tails.specs.Tails.{clear}
use Rattle.layout.specs.Parts.{flag_bits, kinds_for, budget_for, codes_long}
use Rattle.writer.specs.Writes.{Roomy}

-- flags, norms, codes, noise, tail
unfoldable pub body_bits : Record → List ℕ → List ℕ → List Bool
body_bits r vs ts =
    flag_bits r ++ (norm_bits r.transient r.flag_n r.norms
    ++ (write_all (map coding (kinds_for r)) vs ++ (word (noise_bits r.transient) r.noise ++ view ts 0 r.tail_bits)))

-- ---- what a reply of 0 tells

pub record Passed (r : Record) (cs ts : List ℕ) (room : ℕ) : Type 0 where
  pub rooms : Roomy r (length cs) (length ts) room
  pub norms : norm_reply r.transient r.norms ≡ done
  pub fit : FitAll (map coding (kinds_for r)) (take 800 cs)
  pub paid : codes_long (kinds_for r) (take 800 cs) ≤ budget_for r
  pub count : r.tail_bits ≡ budget_for r - codes_long (kinds_for r) (take 800 cs)
  pub pad : clear (view ts r.tail_bits (2560 - r.tail_bits)) ≡ true
