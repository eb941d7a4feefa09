-- `g719::g719_write` meets its contract: of the record that the numbers mean. Assumes nothing.
use Rattle.boundary.specs.Flags.{record_in}
use Rattle.g719.proofs.g719_write.Goals as goal

pub returns : goal.returns
unfolding record_in
returns c =
    rw c.into.ensures at c.write.ensures
