-- `codebook::tables::Tables::packed` meets its contract: the code's tables are the lists `twos` and `signs`. Assumes nothing.
use mathlib.Core.Path.{refl}
use Rattle.codebook.specs.Rows.{twos, signs}
use Rattle.codebook.proofs.tables.Tables.packed.Goals as goal

pub invariant_of-result : goal.invariant_of-result
unfolding twos signs
invariant_of-result c =
    record { low_kept = refl; high_kept = refl }
