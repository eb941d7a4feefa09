-- What the functions of this crate promise each other.
-- Assumes nothing.
use Rattle.std.specs.Prelude.{List, map, ℕ, length, drop, replicate}
use Rattle.std.specs.declared.option.Option.{Option}
use Rattle.std.specs.declared.option.Option.TheVariants.{Some, None}
use Rattle.bits.specs.Codecs.{Verdict, fine, bad, write_all}
use Rattle.words.specs.Tables.{coding, norm_words}
use Rattle.norms.specs.Steps.{numbers}

-- the bits of the words of the differences of indices in sent order
unfoldable pub step_total : List ℕ → ℕ
step_total ss = length (write_all (map coding (replicate 43 norm_words)) (drop 1 (numbers 15 ss)))

abbrev pub indices_of : Verdict (List ℕ) → Option (List ℕ)
indices_of (fine ss) = Some ss
indices_of (bad x) = None
